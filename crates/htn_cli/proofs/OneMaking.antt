-- What is made of so many packages, or refused, is one thing: the made texts are translated in one way, and the made plan comes to one
-- number of steps or sentence, which is the same over each value that the texts spell.
use Rattle.std.proofs.Common.{ℕ, ◌≡◌, ◌<◌, ◌≤◌, inl, inr, List, length, None, refl, sym, ap, ◌∙◌, subst, arith}
use Rattle.std.proofs.lemmas.List.{length-map}
use Rattle.htn_base.specs.Limits.{longest_output, most_slots}
use Rattle.text_forms.specs.sheets.Sheets.{capped}
use Rattle.plan_model.specs.declared.options.Checks.TheVariants.{Leaf}
use Rattle.plan_model.specs.declared.values.Compiled.{Compiled}
use Rattle.plan_model.specs.declared.values.Pddl.{Pddl}
use Rattle.plan_texts.specs.PrintedTexts.{domain_text, problem_text}
use Rattle.plan_texts.specs.SpellsPddl.{SpellsPddl}
use Rattle.plan_texts.proofs.PrintedSpells.{printed_spells}
use Rattle.plan_texts.proofs.UniquePddl.{spelled_alike}
use Rattle.hplan_text.specs.declared.values.HPlan.{HPlan}
use Rattle.plan_encoder.specs.Laws.{IsOf}
use Rattle.step_texts.specs.declared.text.StepText.{StepText}
use Rattle.step_texts.specs.declared.text.StepText.TheVariants.{Whole, TooLong, NoMatch, NotExecutable, GoalFalse, NoPlacement, NeedsBound, TooWide}
use Rattle.step_texts.specs.StepTexts.{HasWidth, IsStepText, steps_text}
use Rattle.encode_answers.specs.EncodeLaws.{AreEncodedAlike, EachIsEncodedOnce, EachIsSpelledOnce, ValuesAreEncodedAlike}
use Rattle.made_transport.specs.Made.{made_domain}
use Rattle.ground_answers.specs.GroundLaws.{ValuesHaveOneGroundBound}
use Rattle.command_words.specs.declared.level.Level.TheVariants.{Lifted}
use Rattle.command_words.specs.Words.{TranslationRequest, MakeRequest}
use Rattle.htn_cli.specs.Answer.{Output, Answer, refuses, gives}
use Rattle.htn_cli.specs.Encoding.{IsFound}
use Rattle.htn_cli.specs.Lines.{summary}
use Rattle.htn_cli.specs.Making.{IsCounted, packages, problem_of, plan_of, translation_for, IsAtBound, GivesMake, RefusesMake}
use Rattle.htn_cli.specs.OneAnswer.{TellTheSame}
use Rattle.htn_cli.specs.Texts.{Texts, AreTranslated, AreTooLong}
use Rattle.htn_cli.specs.Translation.{RefusesTranslation, manner_with, texts_for}
use Rattle.htn_cli.specs.declared.refusal.Finding.{Finding}
use Rattle.htn_cli.specs.declared.refusal.Finding.TheVariants as finding
use Rattle.htn_cli.specs.declared.refusal.Limit.TheVariants as limit
use Rattle.htn_cli.specs.declared.refusal.Refusal.{Refusal}
use Rattle.htn_cli.specs.declared.refusal.Refusal.TheVariants as refused
use Rattle.htn_cli.proofs.MadePlans.{made_is_sound}
use Rattle.htn_cli.proofs.OneEncoding.{answer_by, same_answer, slots_text_there}
use Rattle.htn_cli.proofs.OneSlots.{Follows, cycle, out, within, one_follows}
use Rattle.htn_cli.proofs.OneTranslation.{Source, long, fully, same_prints, long_not_written, texts_of_both}

-- two values that two texts spell have as many actions
pub same_actions : (od op : List ℕ) (v w : Pddl) → SpellsPddl od op v → SpellsPddl od op w → length v.actions ≡ length w.actions
same_actions od op v w a b =
    let alike = spelled_alike v w od op a b in
    let e = ap length alike.declared.actions in
    sym (length-map v.actions _) ∙ e ∙ length-map w.actions _

abbrev pub MakeComes : MakeRequest → Answer → Type 0
MakeComes request (refuses refusal) = RefusesMake request refusal
MakeComes request (gives output) = GivesMake request output × (length output.told ≤ longest_output)

-- a plan without steps
abbrev IsStopped : StepText → Type 0
IsStopped (Whole text) = ⊥
IsStopped (TooLong n) = ⊥
IsStopped _ = Unit {0}

module _ (once : EachIsEncodedOnce) (alike : ValuesAreEncodedAlike) (spelled_once : EachIsSpelledOnce) (ground : ValuesHaveOneGroundBound) (request : MakeRequest) where
  abbrev p : List ℕ
  p = problem_of request

  abbrev plan : HPlan
  plan = plan_of request

  abbrev t : TranslationRequest
  t = translation_for request

  abbrev Read : Type 0
  Read = Source t made_domain p

  is_of : (x : Read) → IsOf x.1.value Leaf x.0
  is_of x = record { sound = x.1.read.sound; ordered = x.1.read.ordered; compiled = x.1.compiled_is }

  encoded_alike : (x y : Read) → AreEncodedAlike x.0 y.0 plan
  encoded_alike x y = alike made_domain p x.1.value y.1.value Leaf x.0 y.0 plan x.1.read.spelled y.1.read.spelled (is_of x) y.1.compiled_is

  -- what is told of a number of actions and of steps, whole, or its length
  abbrev output_for : Texts → (actions slots width steps : ℕ) → Output
  output_for texts actions slots width steps =
      record { texts = texts_for t.names texts; told = summary (packages request) actions slots width steps }

  data Tells (output : Output) : Answer → Type 0 where
    whole : length output.told ≤ longest_output → Tells output (gives output)
    over : longest_output < length output.told → Tells output (refuses (refused.Limit (limit.Output (capped (length output.told)))))

  one_told : (o q : Output) → o ≡ q → (a b : Answer) → Tells o a → Tells q b → TellTheSame a b
  one_told o q e a b (whole l) (whole k) = same_answer a b (ap gives e)
  one_told o q e a b (over l) (over k) = same_answer a b (ap (λ (z : Output). refuses (refused.Limit (limit.Output (capped (length z.told))))) e)
  one_told o q e a b (whole l) (over k) = absurd (let s = ap (λ (z : Output). length z.told) e in omega (arith, l, k, s))
  one_told o q e a b (over l) (whole k) = absurd (let s = ap (λ (z : Output). length z.told) e in omega (arith, l, k, s))

  -- what is printed of a problem, and told
  data Sums (x : Read) (slots width steps : ℕ) : Answer → Type 0 where
    too_long : (n : ℕ) → AreTooLong x.0 (manner_with t made_domain p slots) n → Sums x slots width steps (refuses (refused.Limit (limit.Output n)))
    summed : (texts : Texts) (actions : ℕ) (is : AreTranslated x.1.value x.0 (manner_with t made_domain p slots) texts) → actions ≡ length is.value.actions
        → (a : Answer) → Tells (output_for texts actions slots width steps) a → Sums x slots width steps a

  module _ (x y : Read) (slots width steps : ℕ) where
    value_spelled : (z : Read) (texts : Texts) (is : AreTranslated z.1.value z.0 (manner_with t made_domain p slots) texts) → SpellsPddl (domain_text is.value) (problem_text is.value) is.value
    value_spelled z texts is = printed_spells is.value is.printed.printable

    same_output : (texts others : Texts) (n m : ℕ) (is : AreTranslated x.1.value x.0 (manner_with t made_domain p slots) texts) (are : AreTranslated y.1.value y.0 (manner_with t made_domain p slots) others)
        → n ≡ length is.value.actions → m ≡ length are.value.actions → output_for texts n slots width steps ≡ output_for others m slots width steps
    same_output texts others n m is are e f =
        let s = texts_of_both t made_domain p x y slots is.value are.value (fully t made_domain p x slots texts is) (fully t made_domain p y slots others are) in
        let there : SpellsPddl (domain_text are.value) (problem_text are.value) is.value = subst (λ (z : Type 0). z) (λ i. SpellsPddl (s.0 i) (s.1 i) is.value) (value_spelled x texts is) in
        let count : n ≡ m = e ∙ same_actions (domain_text are.value) (problem_text are.value) is.value are.value there (value_spelled y others are) ∙ sym f in
        let dl = is.domain_is ∙ s.0 ∙ sym are.domain_is in
        let pl = is.problem_is ∙ s.1 ∙ sym are.problem_is in
        λ i. output_for (record { domain = dl i; problem = pl i }) (count i) slots width steps

    one_sum : (a b : Answer) → Sums x slots width steps a → Sums y slots width steps b → TellTheSame a b
    one_sum a b (too_long n l) (too_long m k) = same_prints t made_domain p x y slots a b (long n l) (long m k)
    one_sum a b (too_long n l) (summed texts m are f c told) = absurd (long_not_written t made_domain p x y slots n texts l are)
    one_sum a b (summed texts n is e c told) (too_long m k) = absurd (long_not_written t made_domain p y x slots m texts k is)
    one_sum a b (summed texts n is e c told) (summed others m are f q also) =
        one_told (output_for texts n slots width steps) (output_for others m slots width steps) (same_output texts others n m is are e f) c q told also

  -- what the plan comes to: no steps, or so many
  data Plans (x : Read) (slots : ℕ) : Answer → Type 0 where
    stopped : (s : StepText) → IsStopped s → ((most : ℕ) → IsStepText x.0 plan None most s) → (a : Answer) → a ≡ answer_by s → Plans x slots a
    counted : (width steps : ℕ) → IsCounted x.0 plan width steps → (a : Answer) → Sums x slots width steps a → Plans x slots a

  one_text : (x y : Read) (most : ℕ) (s u : StepText) → IsStepText x.0 plan None most s → IsStepText y.0 plan None most u → s ≡ u
  one_text x y most s u is are =
      once y.1.value Leaf y.0 (is_of y) plan (made_is_sound (packages request)) None most s u
      (slots_text_there x.0 y.0 plan None (encoded_alike x y) most s is) are

  not_both : (x y : Read) (s : StepText) → IsStopped s → ((most : ℕ) → IsStepText x.0 plan None most s) → (width steps : ℕ) → IsCounted y.0 plan width steps → ⊥
  not_both x y s bare is width steps (list, spelled, e) =
      let text = steps_text width list in
      subst IsStopped (one_text x y (length text) s (Whole text) (is (length text)) ((width, list, spelled, refl), omega arith)) bare

  same_count : (x y : Read) (width steps wide more : ℕ) → IsCounted x.0 plan width steps → IsCounted y.0 plan wide more → (width ≡ wide) × (steps ≡ more)
  same_count x y width steps wide more (list, spelled, e) (others, also, f) =
      let there = (encoded_alike x y).spelled width width list spelled in
      let s = spelled_once y.1.value Leaf y.0 (is_of y) plan width wide width wide list others there also in
      (s.0, e ∙ ap length s.1 ∙ sym f)

  one_plan : (x y : Read) (slots : ℕ) → 1 ≤ slots → slots ≤ most_slots → (a b : Answer) → Plans x slots a → Plans y slots b → TellTheSame a b
  one_plan x y slots some few a b (stopped s bare is c e) (stopped u also are q f) = same_answer a b (e ∙ ap answer_by (one_text x y 0 s u (is 0) (are 0)) ∙ sym f)
  one_plan x y slots some few a b (stopped s bare is c e) (counted width steps are q sums) = absurd (not_both x y s bare is width steps are)
  one_plan x y slots some few a b (counted width steps is c sums) (stopped u also are q f) = absurd (not_both y x u also are width steps is)
  one_plan x y slots some few a b (counted width steps is c sums) (counted wide more are q also) =
      let s = same_count x y width steps wide more is are in
      one_sum x y slots wide more a b (subst (λ z. Sums x slots wide z a) s.1 (subst (λ z. Sums x slots z steps a) s.0 sums)) also

  abbrev Comes : Read → Answer → Type 0
  Comes x = Follows most_slots Lifted None x.0 (Plans x)

  module _ (c : Compiled) (bound : ℕ) (source : IsAtBound request c bound) where
    abbrev here : Read
    here = (c, source.problem_is, source.ordered)

    comes_to : (a : Answer) → Plans here bound a → (x : Read) × Comes x a
    comes_to a plans = (here, within bound a source.slots_are source.some source.few plans)

    stops_at : (s : StepText) → IsStopped s → ((most : ℕ) → IsStepText c plan None most s) → (x : Read) × Comes x (answer_by s)
    stops_at s bare is = comes_to (answer_by s) (stopped s bare is (answer_by s) refl)

    found : (f : Finding) → IsFound c plan None f → (x : Read) × Comes x (refuses (refused.Finding f))
    found (finding.NoMatch id) is = stops_at (NoMatch id) tt (λ most. is)
    found (finding.NotExecutable id) is = stops_at (NotExecutable id) tt (λ most. is)
    found finding.GoalFalse is = stops_at GoalFalse tt (λ most. is)
    found finding.NoPlacement is = stops_at NoPlacement tt (λ most. is)
    found (finding.NeedsBound width) is = stops_at (NeedsBound width) tt (λ most. is)
    found _ is = absurd is

    wide : (n : ℕ) → HasWidth c plan n → most_slots < n → (x : Read) × Comes x (refuses (refused.Limit (limit.Slots n)))
    wide n has past = stops_at (TooWide n) tt (λ most. (has, refl, past))

  by_cycle : (f : Finding) → RefusesTranslation t made_domain p (refused.Finding f) → (x : Read) × Comes x (refuses (refused.Finding f))
  by_cycle (finding.NotTailRecursive words) ((e, some), (c, source, named)) = ((c, source, tt), cycle words e named)
  by_cycle (finding.NotTotallyOrdered word) (stack, x) = absurd (cc)
  by_cycle _ x = absurd x

  -- an output, whole or not
  sums_of : (output : Output) → GivesMake request output → (a : Answer) → Tells output a → (x : Read) × Comes x a
  sums_of output (texts, actions, bound, width, steps, are, e) a told =
      let w = are.written in
      comes_to w.compiled bound w.source a
      (counted width steps are.counted a (summed texts actions w.translated are.actions_are a (subst (λ z. Tells z a) e told)))

  declines : (refusal : Refusal) → RefusesMake request refusal → (x : Read) × Comes x (refuses refusal)
  declines (refused.Finding f) (inl x) = by_cycle f x
  declines (refused.Finding f) (inr (c, bound, source, is)) = found c bound source f is
  declines (refused.Limit limit.Bound) ((e, some), (n, (c, source, bound), past)) = ((c, source, tt), out n (refused.Limit limit.Bound) e bound past)
  declines (refused.Limit (limit.Slots m)) (inl ((e, some), (n, (c, source, bound), past))) = ((c, source, tt), out n (refused.Limit (limit.Slots m)) e bound past)
  declines (refused.Limit (limit.Slots m)) (inr (c, bound, source, has, past)) = wide c bound source m has past
  declines (refused.Limit (limit.Output n)) (inl (c, bound, width, steps, source, is, l)) =
      comes_to c bound source (refuses (refused.Limit (limit.Output n))) (counted width steps is (refuses (refused.Limit (limit.Output n))) (too_long n l))
  declines (refused.Limit (limit.Output n)) (inr (output, g, e, l)) =
      subst (λ z. (x : Read) × Comes x (refuses (refused.Limit (limit.Output z)))) (sym e)
      (sums_of output g (refuses (refused.Limit (limit.Output (capped (length output.told))))) (over l))
  declines _ x = absurd x

  comes : (a : Answer) → MakeComes request a → (x : Read) × Comes x a
  comes (refuses refusal) is = declines refusal is
  comes (gives output) (g, fits) = sums_of output g (gives output) (whole fits)

  pub one_made : (a b : Answer) → MakeComes request a → MakeComes request b → TellTheSame a b
  one_made a b is also =
      let x = comes a is in let y = comes b also in
      one_follows most_slots (omega arith) ground Lifted made_domain p Leaf None (x.0.0, x.0.1) (y.0.0, y.0.1) (Plans x.0) (Plans y.0) (one_plan x.0 y.0) a b x.1 y.1
