-- Of a made problem something follows.
use Rattle.std.proofs.Common.{ℕ, ◌<◌, ◌≤◌, ◌^◌, ◌⊎◌, inl, inr, List, [], length, codes, None, refl, arith}
use Rattle.std.proofs.lemmas.Bool.{cases_lt}
use Rattle.htn_base.specs.Limits.{longest_input, longest_output, most_slots}
use Rattle.text_forms.specs.sheets.Sheets.{capped}
use Rattle.hddl_reader.specs.declared.sections.Language.TheVariants as language
use Rattle.plan_model.specs.declared.options.Checks.TheVariants.{Leaf}
use Rattle.plan_model.specs.declared.values.Compiled.{Compiled}
use Rattle.plan_model.specs.plan_meaning.Bound.{IsBound}
use Rattle.hplan_text.specs.declared.values.HPlan.{HPlan}
use Rattle.step_texts.specs.declared.text.StepText.{StepText}
use Rattle.step_texts.specs.declared.text.StepText.TheVariants.{Whole, TooLong, NoMatch, NotExecutable, GoalFalse, NoPlacement, NeedsBound, TooWide}
use Rattle.step_texts.specs.StepTexts.{IsTextOf, IsStepText}
use Rattle.encode_answers.specs.EncodeLaws.{EachIsEncodedSomehow}
use Rattle.text_answers.specs.Existence.{FaultlessHddlHasAValue}
use Rattle.text_values.specs.TextFaults.{IsLeastFault, in_domain, in_problem}
use Rattle.made_transport.specs.Made.{made_domain}
use Rattle.made_transport.proofs.Printed.{made-printable}
use Rattle.made_transport.proofs.Short.{domain-short, problem-short}
use Rattle.command_words.specs.declared.level.Level.TheVariants.{Lifted}
use Rattle.command_words.specs.Words.{TranslationRequest, MakeRequest, to_make}
use Rattle.htn_cli.specs.Answer.{Output}
use Rattle.htn_cli.specs.Lines.{summary}
use Rattle.htn_cli.specs.Making.{IsCounted, packages, problem_of, plan_of, translation_for, IsAtBound, GivesMake}
use Rattle.htn_cli.specs.Problem.{SpellProblem}
use Rattle.htn_cli.specs.Texts.{Texts, AreTranslated}
use Rattle.htn_cli.specs.Translation.{manner_with, texts_for}
use Rattle.htn_cli.specs.declared.refusal.Finding.TheVariants as finding
use Rattle.htn_cli.specs.declared.refusal.Limit.TheVariants as limit
use Rattle.htn_cli.specs.declared.refusal.Refusal.TheVariants as refused
use Rattle.htn_cli.proofs.Leavings.{positive}
use Rattle.htn_cli.proofs.MadePlans.{made_is_sound}
use Rattle.htn_cli.proofs.SomeInputs.{Finished, declined_texts, given_output, by_fault}
use Rattle.htn_cli.proofs.SomeProblem.{Fault, Problem, fault_or_problem, Bounded, bound_is, cycle_is, much_is, bounded}
use Rattle.htn_cli.proofs.SomeTranslation.{prints}

module _ (value : FaultlessHddlHasAValue) (somehow : EachIsEncodedSomehow) (request : MakeRequest) (few : packages request ≤ 819) where
  abbrev p : List ℕ
  p = problem_of request

  abbrev plan : HPlan
  plan = plan_of request

  abbrev t : TranslationRequest
  t = translation_for request

  abbrev Has : Type 0
  Has = Finished (to_make request) []

  short : length p ≤ longest_input
  short = problem-short (packages request) few

  abbrev Source : Type 0
  Source = Problem value made_domain p domain-short short Leaf

  module _ (c : Compiled) (bound : ℕ) (source : IsAtBound request c bound) where
    -- what is told is short enough, or not
    told : (output : Output) → GivesMake request output → (longest_output < length output.told) ⊎ (length output.told ≤ longest_output) → Has
    told output g (inl past) = declined_texts (refused.Limit (limit.Output (capped (length output.told)))) (inr (output, g, refl, past))
    told output g (inr fits) = given_output output g fits

    written : (width steps : ℕ) → IsCounted c plan width steps → (texts : Texts) → AreTranslated source.problem_is.value c (manner_with t made_domain p bound) texts → Has
    written width steps is texts are =
        let n = length are.value.actions in
        let line = summary (packages request) n bound width steps in
        told (record { texts = texts_for t.names texts; told = line })
        (texts, n, bound, width, steps, record { written = record { compiled = c; source = source; translated = are }; actions_are = refl; counted = is }, refl)
        (cases_lt longest_output (length line))

    counted : (width steps : ℕ) → IsCounted c plan width steps → Has
    counted width steps is = elim (prints value t made_domain p domain-short short c bound source) [
      | inl (n, l) ↦ declined_texts (refused.Limit (limit.Output n)) (inl (c, bound, width, steps, source, is, l))
      | inr (texts, are) ↦ written width steps is texts are
    ]

    of_text : (text : List ℕ) → IsTextOf c plan None text → Has
    of_text text (width, list, spelled, e) = counted width (length list) (list, spelled, refl)

    by_text : (text : StepText) → IsStepText c plan None longest_output text → Has
    by_text (Whole text) (x, fits) = of_text text x
    by_text (TooLong n) (text, x, e, past) = of_text text x
    by_text (NoMatch id) x = declined_texts (refused.Finding (finding.NoMatch id)) (inr (c, bound, source, x))
    by_text (NotExecutable id) x = declined_texts (refused.Finding (finding.NotExecutable id)) (inr (c, bound, source, x))
    by_text GoalFalse x = declined_texts (refused.Finding finding.GoalFalse) (inr (c, bound, source, x))
    by_text NoPlacement x = declined_texts (refused.Finding finding.NoPlacement) (inr (c, bound, source, x))
    by_text (NeedsBound width) x = declined_texts (refused.Finding (finding.NeedsBound width)) (inr (c, bound, source, x))
    by_text (TooWide width) (x, none, past) = declined_texts (refused.Limit (limit.Slots width)) (inr (c, bound, source, x, past))

    at_bound : Has
    at_bound =
        let is = source.problem_is in
        let (text, x) =
        somehow is.value Leaf c (record { sound = is.read.sound; ordered = is.read.ordered; compiled = is.compiled_is }) plan
        (made_is_sound (packages request)) (made-printable (packages request) few) None longest_output (omega arith) tt in
        by_text text x

  by_number : (c : Compiled) (is : SpellProblem made_domain p Leaf c) (n : ℕ) → IsBound c n → (n < 2 ^ 128) ⊎ (2 ^ 128 ≤ n) → (most_slots < n) ⊎ (n ≤ most_slots) → Has
  by_number c is n b (inr past) many = declined_texts (refused.Limit limit.Bound) ((refl, (c, is, tt)), (n, (c, is, b), past))
  by_number c is n b (inl small) (inl many) = declined_texts (refused.Limit (limit.Slots n)) (inl ((refl, (c, is, tt)), (n, (c, is, b), (refl, many, small))))
  by_number c is n b (inl small) (inr less) = at_bound c n (record { problem_is = is; ordered = tt; slots_are = b; some = positive Lifted c n b; few = less })

  by_problem : (x : Source) → Bounded value made_domain p domain-short short Leaf Lifted x.0 → Has
  by_problem (c, is) (much_is past) = absurd past
  by_problem (c, is) (cycle_is words named) = declined_texts (refused.Finding (finding.NotTailRecursive words)) (inl ((refl, (c, is, tt)), (c, is, named)))
  by_problem (c, is) (bound_is n b) = by_number c is n b (cases_lt n (2 ^ 128)) (cases_lt most_slots n)

  by_file : (file code at : ℕ) → IsLeastFault language.Hddl made_domain p file code at → Has
  by_file file code at (in_domain x) = by_fault (to_make request) [] 0 (codes "domain") at code refl (in_domain x)
  by_file file code at (in_problem t raw good x) = by_fault (to_make request) [] 1 (codes "problem") at code refl (in_problem t raw good x)

  by_meaning : Fault value made_domain p domain-short short Leaf ⊎ Source → Has
  by_meaning (inl (file, code, at, x)) = by_file file code at x
  by_meaning (inr x) = by_problem x (bounded value made_domain p domain-short short Leaf Lifted x)

  pub making_finished : Has
  making_finished = by_meaning (fault_or_problem value made_domain p domain-short short Leaf)
