-- Of three texts that are encoded something follows.
use Rattle.std.proofs.Common.{ℕ, ◌≡◌, ◌<◌, ◌≤◌, ◌⊎◌, inl, inr, List, [], ◌∷◌, length, Option, Some, None, option_map}
use Rattle.std.proofs.Common.{refl, arith}
use Rattle.std.proofs.lemmas.Bool.{cases_lt}
use Rattle.htn_base.specs.Limits.{longest_input, longest_output, most_lines}
use Rattle.hddl_reader.specs.declared.sections.Language.TheVariants as language
use Rattle.command_words.specs.declared.form.PrintedForm.TheVariants.{Stack}
use Rattle.command_words.specs.Names.{Word}
use Rattle.command_words.specs.Words.{EncodeRequest, to_encode, number_of}
use Rattle.plan_model.specs.declared.values.Compiled.{Compiled}
use Rattle.hplan_text.specs.declared.values.HPlan.{HPlan}
use Rattle.hplan_text.specs.Reading.{IsHPlanRead}
use Rattle.hplan_text.proofs.SpelledSound.{read-sound}
use Rattle.hplan_text.proofs.SpelledWords.{spelled-printable}
use Rattle.step_texts.specs.declared.text.StepText.{StepText}
use Rattle.step_texts.specs.declared.text.StepText.TheVariants.{Whole, TooLong, NoMatch, NotExecutable, GoalFalse, NoPlacement}
use Rattle.step_texts.specs.declared.text.StepText.TheVariants.{NeedsBound, TooWide}
use Rattle.text_answers.specs.Existence.{FaultlessHddlHasAValue}
use Rattle.text_values.specs.TextFaults.{IsLeastFault, in_domain, in_problem}
use Rattle.htn_cli.specs.Answer.{told_alone}
use Rattle.htn_cli.specs.Encoding.{count_of, slots_of, SpellHPlan, SpellFewLines, SpellFormLines}
use Rattle.htn_cli.specs.LeastFaults.{of_problem, of_third}
use Rattle.htn_cli.specs.PrintedForms.{IsOrderedFor, NamesUnordered}
use Rattle.htn_cli.specs.Problem.{SpellProblem}
use Rattle.htn_cli.specs.Requests.{IsWithin}
use Rattle.htn_cli.specs.SpelledForms.{IsStepTextAs}
use Rattle.htn_cli.specs.declared.refusal.Finding.TheVariants as finding
use Rattle.htn_cli.specs.declared.refusal.Limit.TheVariants as limit
use Rattle.htn_cli.specs.declared.refusal.Refusal.TheVariants as refused
use Rattle.htn_cli.proofs.ByForm.{ordered_or_not}
use Rattle.htn_cli.proofs.EncodedByForm.{EachIsEncodedSomehowAs}
use Rattle.htn_cli.proofs.SomeHPlan.{HPlanIsReadOrRefused, hplan_told}
use Rattle.htn_cli.proofs.SomeInputs.{Finished, declined_texts, given_output, by_fault}
use Rattle.htn_cli.proofs.SomeProblem.{Fault, Problem, fault_or_problem}

-- where no number is given, there is no numeral
no_numeral : (numeral : Option Word) → option_map number_of numeral ≡ None → numeral ≡ None
no_numeral None e = refl
no_numeral (Some word) e = absurd (cc)

module _ (value : FaultlessHddlHasAValue) (somehow : EachIsEncodedSomehowAs) (request : EncodeRequest) (d p s : List ℕ)
    (domain_short : length d ≤ longest_input) (problem_short : length p ≤ longest_input) where
  abbrev Has : Type 0
  Has = Finished (to_encode request) (d ∷ p ∷ s ∷ [])

  abbrev Source : Type 0
  Source = Problem value d p domain_short problem_short request.checks

  module _ (c : Compiled) (is : SpellProblem d p request.checks c) (plan : HPlan) (read : IsHPlanRead s plan) where
    spell : SpellHPlan request d p s c plan
    spell = record { problem_is = is; read = read }

    module _ (few : count_of plan ≤ most_lines) where
      spell_few : SpellFewLines request d p s c plan
      spell_few = record { spelled = spell; few = few }

      -- of a problem that the form takes
      module _ (ordered : IsOrderedFor request.form c) where
        spell_form : SpellFormLines request d p s c plan
        spell_form = record { spelled = spell_few; ordered = ordered }

        -- what the plan comes to is given, or refused
        by_text : (text : StepText) → IsStepTextAs request.form c plan (slots_of request) longest_output text → Has
        by_text (Whole text) (x, fits) = given_output (told_alone text) (c, plan, text, spell_form, x, refl) fits
        by_text (TooLong n) (text, x, e, past) = declined_texts (refused.Limit (limit.Output n)) (c, plan, text, spell_form, x, e, past)
        by_text (NoMatch id) x = declined_texts (refused.Finding (finding.NoMatch id)) (inr (c, plan, spell_form, x))
        by_text (NotExecutable id) x = declined_texts (refused.Finding (finding.NotExecutable id)) (inr (c, plan, spell_form, x))
        by_text GoalFalse x = declined_texts (refused.Finding finding.GoalFalse) (inr (c, plan, spell_form, x))
        by_text NoPlacement x = declined_texts (refused.Finding finding.NoPlacement) (inr (c, plan, spell_form, x))
        by_text (NeedsBound width) x = declined_texts (refused.Finding (finding.NeedsBound width)) (inr (c, plan, spell_form, x))
        by_text (TooWide width) (x, none, past) =
            declined_texts (refused.Limit (limit.Slots width)) (no_numeral request.numeral none, (c, plan, spell_form, x, past))

        encoded : IsWithin (to_encode request) → Has
        encoded within =
            let (text, x) =
            somehow request.form is.value request.checks c (record { sound = is.read.sound; ordered = is.read.ordered; compiled = is.compiled_is }) ordered plan
            (read-sound s plan read) (spelled-printable s plan read.spelled) (slots_of request) longest_output (omega arith) within in
            by_text text x

      -- where the methods are not all totally ordered, a stack is declined
      by_order : IsWithin (to_encode request) → IsOrderedFor request.form c ⊎ ((request.form ≡ Stack) × ((word : List ℕ) × NamesUnordered c word)) → Has
      by_order within (inl ordered) = encoded ordered within
      by_order within (inr (stack, (word, named))) = declined_texts (refused.Finding (finding.NotTotallyOrdered word)) (inl (stack, (c, plan, spell_few, named)))

    by_count : IsWithin (to_encode request) → (most_lines < count_of plan) ⊎ (count_of plan ≤ most_lines) → Has
    by_count within (inl many) = declined_texts (refused.Limit (limit.Lines (count_of plan))) (c, plan, spell, refl, many)
    by_count within (inr few) = by_order few within (ordered_or_not c request.form)

  by_plan : IsWithin (to_encode request) → Source → HPlanIsReadOrRefused s → Has
  by_plan within (c, is) (inl (plan, read)) = by_count c is plan read within (cases_lt most_lines (count_of plan))
  by_plan within (c, is) (inr (f, x)) =
      by_fault (to_encode request) (d ∷ p ∷ s ∷ []) 2 request.hplan f.at f.code refl (of_third is.read.faultless x)

  by_file : (file code at : ℕ) → IsLeastFault language.Hddl d p file code at → Has
  by_file file code at (in_domain x) =
      by_fault (to_encode request) (d ∷ p ∷ s ∷ []) 0 request.domain at code refl (of_problem (in_domain x))
  by_file file code at (in_problem t raw good x) =
      by_fault (to_encode request) (d ∷ p ∷ s ∷ []) 1 request.problem at code refl (of_problem (in_problem t raw good x))

  by_meaning : (Source → Has) → Fault value d p domain_short problem_short request.checks ⊎ Source → Has
  by_meaning go (inl (file, code, at, x)) = by_file file code at x
  by_meaning go (inr x) = go x

  pub encoding_finished : IsWithin (to_encode request) → Has
  encoding_finished within =
      by_meaning (λ x. by_plan within x (hplan_told s)) (fault_or_problem value d p domain_short problem_short request.checks)
