-- What a translation gives, or is declined for, is one thing.
use Rattle.std.proofs.Common.{ℕ, ◌≡◌, ◌≤◌, List, length, Some, refl, sym, ap, ◌∙◌, subst, inl, inr, arith}
use Rattle.htn_base.specs.Limits.{longest_output}
use Rattle.plan_model.specs.declared.values.Pddl.{Pddl}
use Rattle.plan_model.specs.declared.values.Compiled.{Compiled}
use Rattle.plan_texts.specs.PrintedTexts.{domain_text, problem_text}
use Rattle.ground_answers.specs.GroundLaws.{ValuesHaveOneGroundBound}
use Rattle.command_words.specs.Words.{TranslationRequest}
use Rattle.htn_cli.specs.Answer.{Output, Answer, refuses, gives}
use Rattle.htn_cli.specs.OneAnswer.{TellTheSame}
use Rattle.command_words.specs.declared.form.PrintedForm.TheVariants.{Stack}
use Rattle.htn_cli.specs.PrintedForms.{IsOrderedFor, NamesUnordered}
use Rattle.htn_cli.specs.Problem.{SpellProblem, AreFor}
use Rattle.htn_cli.specs.Refusal.{line_of}
use Rattle.htn_cli.specs.Requests.{most_by}
use Rattle.htn_cli.specs.Texts.{Texts, IsFirstTooLong, AreTranslated, AreTooLong}
use Rattle.htn_cli.specs.Translation.{manner_with, IsForSlots, RefusesTranslation, GivesTranslation, translation_output}
use Rattle.htn_cli.specs.declared.refusal.Finding.TheVariants as finding
use Rattle.htn_cli.specs.declared.refusal.Limit.TheVariants as limit
use Rattle.htn_cli.specs.declared.refusal.Refusal.{Refusal}
use Rattle.htn_cli.specs.declared.refusal.Refusal.TheVariants as refused
use Rattle.htn_cli.proofs.Rules.{few_by}
use Rattle.htn_cli.proofs.ByForm.{IsFully, fully as fully_of_form, texts_of_both as both_texts, ordered_too, unordered_not, one_unordered}
use Rattle.htn_cli.proofs.OneEncoding.{same_answer}
use Rattle.htn_cli.proofs.OneSlots.{Follows, much, cycle, out, within, one_follows}

pub one_long : (domain problem : List ℕ) (n m : ℕ) → IsFirstTooLong domain problem n → IsFirstTooLong domain problem m → n ≡ m
one_long domain problem n m (inl (l, e)) (inl (k, f)) = e ∙ sym f
one_long domain problem n m (inl (l, e)) (inr (few, k, f)) = absurd (omega (arith, l, few))
one_long domain problem n m (inr (few, l, e)) (inl (k, f)) = absurd (omega (arith, k, few))
one_long domain problem n m (inr (few, l, e)) (inr (less, k, f)) = e ∙ sym f

pub not_long : (domain problem : List ℕ) (n : ℕ) → IsFirstTooLong domain problem n → length domain ≤ longest_output → length problem ≤ longest_output → ⊥
not_long domain problem n (inl (l, e)) d p = omega (arith, l, d)
not_long domain problem n (inr (few, l, e)) d p = omega (arith, l, p)

-- what follows from two texts without a fault
abbrev pub TranslationComes : TranslationRequest → List ℕ → List ℕ → Answer → Type 0
TranslationComes request d p (refuses refusal) = RefusesTranslation request d p refusal
TranslationComes request d p (gives output) = GivesTranslation request d p output

module _ (request : TranslationRequest) (d p : List ℕ) where
  -- a problem that is printed in the form of the request
  abbrev pub Source : Type 0
  Source = AreFor d p request.checks request.form

  -- what is printed with so many slots
  pub data Prints (x : Source) (slots : ℕ) : Answer → Type 0 where
    long : (n : ℕ) → AreTooLong x.0 (manner_with request d p slots) n → Prints x slots (refuses (refused.Limit (limit.Output n)))
    written : (texts : Texts) (output : Output) → AreTranslated x.1.value x.0 (manner_with request d p slots) texts → output ≡ translation_output request.names texts slots
        → Prints x slots (gives output)

  pub texts_of_both : (x y : Source) (slots : ℕ) (v w : Pddl) → IsFully request.form request.rule x.0 slots request.style v → IsFully request.form request.rule y.0 slots request.style w → (domain_text v ≡ domain_text w) × (problem_text v ≡ problem_text w)
  texts_of_both x y slots v w e f = both_texts d p request.checks x.0 y.0 x.1 y.1 request.rule slots request.style request.form x.2 y.2 v w e f

  -- what is translated is encoded over all its words
  pub fully : (x : Source) (slots : ℕ) (texts : Texts) (t : AreTranslated x.1.value x.0 (manner_with request d p slots) texts) → IsFully request.form request.rule x.0 slots request.style t.value
  fully x slots texts t = fully_of_form request.rule x.1.value request.checks x.0 slots request.style t.value request.form t.printed t.words

  pub long_not_written : (x y : Source) (slots n : ℕ) (texts : Texts) → AreTooLong x.0 (manner_with request d p slots) n → AreTranslated y.1.value y.0 (manner_with request d p slots) texts → ⊥
  long_not_written x y slots n texts l t =
      let v = l.encoded in
      let e = texts_of_both x y slots v.value t.value (record { encoded = v.encoded; words = v.words }) (fully y slots texts t) in
      let dl = ap length (e.0 ∙ sym t.domain_is) in
      let pl = ap length (e.1 ∙ sym t.problem_is) in
      let df = t.domain_fits in
      let pf = t.problem_fits in
      not_long (domain_text v.value) (problem_text v.value) n (l.too_long v.value v.encoded v.words) (omega (arith, dl, df)) (omega (arith, pl, pf))

  pub same_prints : (x y : Source) (slots : ℕ) (a b : Answer) → Prints x slots a → Prints y slots b → TellTheSame a b
  same_prints x y slots a b (long n l) (long m k) =
      let v = l.encoded in
      let w = k.encoded in
      let e = texts_of_both x y slots v.value w.value (record { encoded = v.encoded; words = v.words }) (record { encoded = w.encoded; words = w.words }) in
      let there = subst (λ (z : Type 0). z) (λ i. IsFirstTooLong (e.0 i) (e.1 i) n) (l.too_long v.value v.encoded v.words) in
      let same = one_long (domain_text w.value) (problem_text w.value) n m there (k.too_long w.value w.encoded w.words) in
      record { status = refl; line = ap (λ z. line_of (refused.Limit (limit.Output z))) same; output = refl }
  same_prints x y slots a b (long n l) (written texts o t e) = absurd (long_not_written x y slots n texts l t)
  same_prints x y slots a b (written texts o t e) (long n l) = absurd (long_not_written y x slots n texts l t)
  same_prints x y slots a b (written texts o t e) (written more q u f) =
      let s = texts_of_both x y slots t.value u.value (fully x slots texts t) (fully y slots more u) in
      let dl = t.domain_is ∙ s.0 ∙ sym u.domain_is in
      let pl = t.problem_is ∙ s.1 ∙ sym u.problem_is in
      let same : o ≡ q = e ∙ (λ i. translation_output request.names (record { domain = dl i; problem = pl i }) slots) ∙ sym f in
      record { status = refl; line = refl; output = ap Some same }

  abbrev Comes : Source → Answer → Type 0
  Comes x = Follows (most_by request.rule) request.level request.numeral x.0 (Prints x)

  -- what comes of a problem that is printed, or of one whose methods are not all totally ordered
  data Ends (a : Answer) : Type 0 where
    follows : (x : Source) → Comes x a → Ends a
    unordered : (c : Compiled) (word : List ℕ) → request.form ≡ Stack → SpellProblem d p request.checks c → NamesUnordered c word
        → a ≡ refuses (refused.Finding (finding.NotTotallyOrdered word)) → Ends a

  -- what holds of a problem that is printed holds of each with the same texts
  abbrev here : AreFor d p request.checks request.form → (c : Compiled) → SpellProblem d p request.checks c → Source
  here (k, is, o) c source = (c, source, ordered_too d p request.checks k c is source request.rule 1 request.style request.form o)

  printed : (c : Compiled) (slots : ℕ) (a : Answer) (source : IsForSlots request d p c slots) → Prints (c, source.problem_is, source.ordered) slots a → Ends a
  printed c slots a source prints = follows (c, source.problem_is, source.ordered) (within slots a source.slots_are source.some source.few prints)

  declines : (refusal : Refusal) → RefusesTranslation request d p refusal → Ends (refuses refusal)
  declines (refused.Finding (finding.NotTotallyOrdered word)) (stack, (c, source, named)) = unordered c word stack source named refl
  declines (refused.Finding (finding.NotTailRecursive words)) ((e, some), (c, source, named)) = follows (here some c source) (cycle words e named)
  declines (refused.Limit limit.Ground) ((e, some), (c, source, past)) = follows (here some c source) (much e past)
  declines (refused.Limit limit.Bound) ((e, some), (n, (c, source, bound), past)) = follows (here some c source) (out n (refused.Limit limit.Bound) e bound past)
  declines (refused.Limit (limit.Slots m)) ((e, some), (n, (c, source, bound), past)) = follows (here some c source) (out n (refused.Limit (limit.Slots m)) e bound past)
  declines (refused.Limit (limit.Output n)) (c, slots, source, l) = printed c slots (refuses (refused.Limit (limit.Output n))) source (long n l)
  declines _ x = absurd x

  gives_by : (output : Output) → GivesTranslation request d p output → Ends (gives output)
  gives_by output (texts, slots, w, e) = printed w.compiled slots (gives output) w.source (written texts output w.translated e)

  comes : (a : Answer) → TranslationComes request d p a → Ends a
  comes (refuses refusal) is = declines refusal is
  comes (gives output) is = gives_by output is

  -- no problem is both
  not_ordered : (x : Source) (c : Compiled) (word : List ℕ) → request.form ≡ Stack → SpellProblem d p request.checks c → NamesUnordered c word → ⊥
  not_ordered x c word stack source named =
      unordered_not c word named (subst (λ z. IsOrderedFor z c) stack (ordered_too d p request.checks x.0 c x.1 source request.rule 1 request.style request.form x.2))

  pub one_translated : ValuesHaveOneGroundBound → (a b : Answer) → TranslationComes request d p a → TranslationComes request d p b
      → TellTheSame a b
  one_translated alike a b is also = go (comes a is) (comes b also)
    where
      go : Ends a → Ends b → TellTheSame a b
      go (follows x one) (follows y other) =
          one_follows (most_by request.rule) (few_by request.rule) alike request.level d p request.checks request.numeral (x.0, x.1) (y.0, y.1) (Prints x) (Prints y) (λ slots some few. same_prints x y slots) a b one other
      go (follows x one) (unordered c word stack source named e) = absurd (not_ordered x c word stack source named)
      go (unordered c word stack source named e) (follows y other) = absurd (not_ordered y c word stack source named)
      go (unordered c word stack source named e) (unordered k more also other is f) =
          same_answer a b (e ∙ ap (λ z. refuses (refused.Finding (finding.NotTotallyOrdered z))) (one_unordered d p request.checks c k source other word more named is) ∙ sym f)
