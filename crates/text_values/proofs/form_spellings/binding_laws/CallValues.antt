-- What a call without faults is bound to.
use Rattle.std.proofs.Common.{ℕ, suc, ◌≡◌, ◌<◌, ◌+◌, Bool, true, false, cond, eqb, inl, inr, List, [], ◌∷◌, ◌++◌, map, length, Option, Some, None, refl, sym, ap, ◌∙◌, arith}
use Rattle.std.specs.Prelude.{option_map}
use Rattle.htn_base.specs.Different.{AreDifferent}
use Rattle.text_forms.specs.Words.{Word, word_at, first_place}
use Rattle.plan_model.specs.declared.networks.Head.{Head}
use Rattle.plan_model.specs.declared.networks.Head.TheVariants.{Task, Action}
use Rattle.gd_reader.specs.Terms.{Names}
use Rattle.gd_reader.specs.declared.term.RawAtom.{RawAtom}
use Rattle.hddl_reader.specs.declared.sections.RawHead.{RawHead}
use Rattle.plan_texts.specs.Networks.{head_of}
use Rattle.plan_texts.specs.Types.{EachIs}
use Rattle.text_values.specs.form_spellings.InTable.{IsIn}
use Rattle.htn_base.specs.Lists.{Has}
use Rattle.hddl_reader.specs.names.Words.{term_word}
use Rattle.hddl_bind.specs.declared.callables.Callable.{Callable}
use Rattle.hddl_bind.specs.Callables.{heads, callable, callables_from, first_called, sooner_called}
use Rattle.hddl_bind.specs.Calls.{called, head_called, call_faults}
use Rattle.text_values.specs.form_spellings.binding_laws.Calls.{IsCallBound, OfAllCallables}
use Rattle.text_values.proofs.form_spellings.binding_laws.CallWords.{none_called, some_called, has_right, ins, inh, upt, uph}
use Rattle.text_values.proofs.form_spellings.binding_laws.Heads.{AreRising}
use Rattle.text_values.proofs.form_spellings.binding_laws.Lists.{lacks_first}
use Rattle.text_values.proofs.form_spellings.binding_laws.Numbered.{has_contains, has_of_map, has_to_map}
use Rattle.text_values.proofs.form_spellings.binding_laws.Ones.{has_one}
use Rattle.text_values.proofs.form_spellings.binding_laws.Places.{same_word}

module _ (names : Names) (differ : AreDifferent names) (n : ℕ) (known : n < length names) where
  abbrev word : RawHead → Word
  word h = term_word names h.name

  abbrev found : (ℕ → Head) → ℕ → List RawHead → Option Callable
  found head k hs = first_called n (callables_from head k hs)

  abbrev AreIn : List RawHead → Type 0
  AreIn hs = EachIs (λ (h : RawHead). IsIn names h.name.name) hs

  nowhere : (head : ℕ → Head) (k : ℕ) (hs : List RawHead) → AreIn hs → found head k hs ≡ None → first_place (word_at names n) (map word hs) ≡ None
  nowhere head k hs i e = lacks_first (word_at names n) (map word hs) (λ h. none_called names differ n known head k hs i e (has_of_map word hs (word_at names n) h))

  somewhere : (head : ℕ → Head) (k : ℕ) (hs : List RawHead) (x : Callable) → AreIn hs → found head k hs ≡ Some x → (i : ℕ) × (first_place (word_at names n) (map word hs) ≡ Some i) × (x.head ≡ head (k + i))
  somewhere head k [] x i e = absurd (cc)
  somewhere head k (h ∷ hs) x i e = go (eqb n h.name.name.number) refl e (somewhere head (suc k) hs x i.1)
    where
      go : (b : Bool) → eqb n h.name.name.number ≡ b → cond b (Some (callable (head k) h)) (found head (suc k) hs) ≡ Some x
          → (found head (suc k) hs ≡ Some x → (i : ℕ) × (first_place (word_at names n) (map word hs) ≡ Some i) × (x.head ≡ head (suc k + i)))
          → (i : ℕ) × (first_place (word_at names n) (map word (h ∷ hs)) ≡ Some i) × (x.head ≡ head (k + i))
      go true f e more =
          let same : callable (head k) h ≡ x = cc in
          let stays : k ≡ k + 0 = omega arith in
          (0, ap (λ b. cond b (Some 0) (option_map suc (first_place (word_at names n) (map word hs)))) (same_word names n h.name.name.number differ known i.0 ∙ f), sym (ap (λ (c : Callable). c.head) same) ∙ ap head stays)
      go false f e more =
          let r = more e in
          let moves : suc k + r.0 ≡ k + suc r.0 = omega arith in
          (suc r.0, ap (λ b. cond b (Some 0) (option_map suc (first_place (word_at names n) (map word hs)))) (same_word names n h.name.name.number differ known i.0 ∙ f) ∙ ap (option_map suc) r.1, r.2 ∙ ap head moves)

  two_words : (ts hs : List RawHead) (g h : RawHead) → AreDifferent (map word (ts ++ hs)) → Has ts g → Has hs h → word g ≡ word h → ⊥
  two_words [] hs g h d m l e = m
  two_words (k ∷ ts) hs g h d (inl i) l e = d.0 (has_contains (map word (ts ++ hs)) (word k) (has_to_map word (ts ++ hs) (word k) (has_one (λ x. word x ≡ word k) (ts ++ hs) h (has_right ts hs h l) (sym e ∙ sym (ap word i)))))
  two_words (k ∷ ts) hs g h d (inr m) l e = two_words ts hs g h d.1 m l e

  pub bound_to : (ts hs : List RawHead) (a : RawAtom) → AreIn ts → AreIn hs → AreRising ts → AreRising hs → AreDifferent (map word (ts ++ hs)) → (o p : Option Callable) → found Task 0 ts ≡ o → found Action 0 hs ≡ p → call_faults (sooner_called o p) a ≡ []
      → head_of (first_place (word_at names n) (map word ts)) (first_place (word_at names n) (map word hs)) ≡ Some (head_called (sooner_called o p))
  bound_to ts hs a i j u w d None None e f c = absurd (cc)
  bound_to ts hs a i j u w d None (Some y) e f c =
      let r = somewhere Action 0 hs y j f in
      let same : 0 + r.0 ≡ r.0 = omega arith in
      ap (λ q. head_of q (first_place (word_at names n) (map word hs))) (nowhere Task 0 ts i e) ∙ ap (option_map Action) r.1 ∙ ap Some (sym (r.2 ∙ ap Action same))
  bound_to ts hs a i j u w d (Some x) None e f c =
      let r = somewhere Task 0 ts x i e in
      let same : 0 + r.0 ≡ r.0 = omega arith in
      ap (λ q. head_of q (first_place (word_at names n) (map word hs))) r.1 ∙ ap Some (sym (r.2 ∙ ap Task same))
  bound_to ts hs a i j u w d (Some x) (Some y) e f c =
      let r = some_called names differ n known Task 0 ts x i u e in
      let s = some_called names differ n known Action 0 hs y j w f in
      absurd (two_words ts hs r.declaration s.declaration d r.member s.member (r.is ∙ sym s.is))

pub is_call_bound : OfAllCallables IsCallBound
is_call_bound names d known a of is differ none =
    bound_to names of.differ a.head.name.number is d.tasks (heads d.actions) a (ins names d known of) (inh names d known of) (upt names d known of) (uph names d known of) differ
    (first_called a.head.name.number (callables_from Task 0 d.tasks)) (first_called a.head.name.number (callables_from Action 0 (heads d.actions))) refl refl (ap (λ k. call_faults (called k a) a) (sym of.are) ∙ none)
    ∙ ap (λ k. Some (head_called (called k a))) (sym of.are)
