-- The words of what is declared without faults are names, and differ where they share a space.
use Rattle.std.proofs.Common.{ℕ, ◌≡◌, inl, inr, List, [], ◌∷◌, ◌++◌, map, refl, sym, ap, subst}
use Rattle.htn_base.specs.Different.{AreDifferent}
use Rattle.text_forms.specs.Words.{Word}
use Rattle.gd_reader.specs.Terms.{Names}
use Rattle.gd_reader.specs.declared.term.RawTerm.{RawTerm}
use Rattle.gd_reader.specs.declared.typed_lists.RawParam.{RawParam}
use Rattle.hddl_reader.specs.declared.sections.Language.{Language}
use Rattle.hddl_reader.specs.declared.sections.RawAction.{RawAction}
use Rattle.hddl_reader.specs.declared.sections.RawDomain.{RawDomain}
use Rattle.hddl_reader.specs.declared.sections.RawHead.{RawHead}
use Rattle.hddl_reader.specs.declared.sections.RawMethod.{RawMethod}
use Rattle.hddl_reader.specs.declared.sections.RawProblem.{RawProblem}
use Rattle.plan_texts.specs.Printable.{IsPlain}
use Rattle.plan_texts.specs.Types.{EachIs}
use Rattle.text_values.specs.form_spellings.Rising.{head_offsets, param_offsets, method_offsets}
use Rattle.hddl_reader.specs.names.Faults.{DuplicateInDomain, DuplicateInProblem, HasDomainFault, HasProblemFault, HasNoFault}
use Rattle.htn_base.specs.Lists.{One, Has}
use Rattle.hddl_reader.specs.names.Types.{IsType}
use Rattle.hddl_reader.specs.names.Types as words
use Rattle.hddl_reader.specs.names.Words.{WordAt, term_word, param_word, param_at, head_at, term_at, IsSecond}
use Rattle.hddl_bind.specs.Callables.{heads}
use Rattle.text_values.specs.form_spellings.binding_laws.InOrder.{IsTypedName, IsPlainName, IsPredicateInOrder, IsHeadInOrder, IsMethodInOrder, IsActionInOrder, IsDomainInOrder, IsProblemInOrder}
use Rattle.text_values.proofs.form_spellings.binding_laws.NoSeconds.{words_differ, rising_differ, new, at_of, word_of}
use Rattle.text_values.proofs.form_spellings.binding_laws.Numbered.{contains_has, has_contains, has_of_map}
use Rattle.text_values.proofs.form_spellings.binding_laws.Ones.{one_has}

-- words that differ, behind others that differ and have none of them
pub differ_behind : (us ws : List Word) → AreDifferent us → AreDifferent ws → ((w : Word) → Has us w → Has ws w → ⊥) → AreDifferent (us ++ ws)
differ_behind [] ws d e apart = e
differ_behind (u ∷ us) ws d e apart = (λ c. go (contains_has (us ++ ws) u c), differ_behind us ws d.1 e (λ w h i. apart w (inr h) i))
  where
    split : (vs : List Word) → Has (vs ++ ws) u → (Has vs u → ⊥) → (Has ws u → ⊥) → ⊥
    split [] h f g = g h
    split (v ∷ vs) (inl e) f g = f (inl e)
    split (v ∷ vs) (inr h) f g = split vs h (λ i. f (inr i)) g

    go : Has (us ++ ws) u → ⊥
    go h = split us h (λ i. d.0 (has_contains us u i)) (λ i. apart u (inl refl) i)

-- declarations with their places, none of which is a second one
module _ {X : Type 0} (says : X → WordAt) (earlier : List Word) (xs : List X) where
  places_are : (xs : List X) → map at_of (map says xs) ≡ map (λ x. (says x).at) xs
  places_are [] = refl
  places_are (x ∷ xs) = ap (λ ns. (says x).at ∷ ns) (places_are xs)

  words_are : (xs : List X) → map word_of (map says xs) ≡ map (λ x. (says x).word) xs
  words_are [] = refl
  words_are (x ∷ xs) = ap (λ ws. (says x).word ∷ ws) (words_are xs)

  pub said_differ : ((at : ℕ) → IsSecond earlier (map says xs) at → ⊥) → AreDifferent (map (λ x. (says x).at) xs) → AreDifferent (map (λ x. (says x).word) xs)
  said_differ none apart = subst AreDifferent (words_are xs) (words_differ earlier (map says xs) none (subst AreDifferent (sym (places_are xs)) apart))

  pub said_new : ((at : ℕ) → IsSecond earlier (map says xs) at → ⊥) → (w : Word) → Has earlier w → Has (map (λ x. (says x).word) xs) w → ⊥
  said_new none w h i =
      let x = one_has (λ (z : WordAt). z.word ≡ w) (map says xs) (has_of_map word_of (map says xs) w (subst (λ ws. Has ws w) (sym (words_are xs)) i)) in
      new earlier (map says xs) none x.0 x.1 (subst (Has earlier) (sym x.2) h)

module _ (l : Language) (names : Names) (d : RawDomain) (is : IsDomainInOrder names d) (none : HasNoFault (HasDomainFault l names d)) where
  again : (at : ℕ) → DuplicateInDomain names d at → ⊥
  again at x = none at 10 (HasDomainFault.duplicate_name x)

  pub constants_differ : AreDifferent (map (param_word names) d.constants)
  constants_differ = said_differ (param_at names) [] d.constants (λ at s. again at (DuplicateInDomain.constant s)) (rising_differ (param_offsets d.constants) is.constants_in_order)

  pub predicates_differ : AreDifferent (map (λ (h : RawHead). term_word names h.name) d.predicates)
  predicates_differ = said_differ (head_at names) [] d.predicates (λ at s. again at (DuplicateInDomain.predicate s)) (rising_differ (head_offsets d.predicates) is.predicates_in_order)

  pub methods_differ : AreDifferent (map (λ (m : RawMethod). term_word names m.head.name) d.methods)
  methods_differ = said_differ (λ (m : RawMethod). head_at names m.head) [] d.methods (λ at s. again at (DuplicateInDomain.method s)) (rising_differ (method_offsets d.methods) is.methods_in_order)

  module _ (p : RawProblem) (isp : IsProblemInOrder names p) (no_problem : HasNoFault (HasProblemFault names d p)) where
    second_object : (at : ℕ) → IsSecond (map (param_word names) d.constants) (map (param_at names) p.objects) at → ⊥
    second_object at s = no_problem at 10 (HasProblemFault.duplicate_name (DuplicateInProblem.object s))

    pub objects_differ : AreDifferent (map (param_word names) d.constants ++ map (param_word names) p.objects)
    objects_differ =
        differ_behind (map (param_word names) d.constants) (map (param_word names) p.objects) constants_differ
        (said_differ (param_at names) (map (param_word names) d.constants) p.objects second_object (rising_differ (param_offsets p.objects) isp.objects_in_order))
        (said_new (param_at names) (map (param_word names) d.constants) p.objects second_object)

-- each is a name
pub typed_plain : (names : Names) (xs : List RawParam) → EachIs (IsTypedName names) xs → EachIs IsPlain (map (param_word names) xs)
typed_plain names [] e = tt
typed_plain names (x ∷ xs) e = (e.0.plain, typed_plain names xs e.1)

pub predicates_plain : (names : Names) (hs : List RawHead) → EachIs (IsPredicateInOrder names) hs → EachIs IsPlain (map (λ (h : RawHead). term_word names h.name) hs)
predicates_plain names [] e = tt
predicates_plain names (h ∷ hs) e = (e.0.name, predicates_plain names hs e.1)

pub heads_plain : (names : Names) (hs : List RawHead) → EachIs (IsHeadInOrder names) hs → EachIs IsPlain (map (λ (h : RawHead). term_word names h.name) hs)
heads_plain names [] e = tt
heads_plain names (h ∷ hs) e = (e.0.name, heads_plain names hs e.1)

pub action_heads : (names : Names) (actions : List RawAction) → EachIs (IsActionInOrder names) actions → EachIs (IsHeadInOrder names) (heads actions)
action_heads names [] e = tt
action_heads names (a ∷ actions) e = (e.0.head, action_heads names actions e.1)

pub methods_plain : (names : Names) (ms : List RawMethod) → EachIs (IsMethodInOrder names) ms → EachIs IsPlain (map (λ (m : RawMethod). term_word names m.head.name) ms)
methods_plain names [] e = tt
methods_plain names (m ∷ ms) e = (e.0.head.name, methods_plain names ms e.1)

-- a type is object, or its word stands in the section
pub type_plain : (names : Names) (d : RawDomain) → EachIs (IsTypedName names) d.types → (w : Word) → IsType names d w → IsPlain w
type_plain names d e w (inl f) = subst IsPlain (sym f) (refl, refl)
type_plain names d e w (inr o) = go d.types e o
  where
    among : (ts : List RawTerm) (rest : List WordAt) → EachIs (IsPlainName names) ts → (One (λ (m : WordAt). m.word ≡ w) rest → IsPlain w) → One (λ (m : WordAt). m.word ≡ w) (map (term_at names) ts ++ rest) → IsPlain w
    among [] rest e more o = more o
    among (t ∷ ts) rest e more (inl f) = subst IsPlain f e.0
    among (t ∷ ts) rest e more (inr o) = among ts rest e.1 more o

    go : (xs : List RawParam) → EachIs (IsTypedName names) xs → One (λ (m : WordAt). m.word ≡ w) (words.mentioned names xs) → IsPlain w
    go [] e o = absurd o
    go (x ∷ xs) e (inl f) = subst IsPlain f e.0.plain
    go (x ∷ xs) e (inr o) = among x.ty (words.mentioned names xs) e.0.types_plain (go xs e.1) o
