-- Of three texts that are decoded something follows.
use Rattle.std.proofs.Common.{ℕ, ◌≡◌, ◌<◌, ◌≤◌, ◌^◌, ◌⊎◌, inl, inr, List, [], ◌∷◌, length, Option, Some, None, IfSome, option_map, refl, sym, subst, arith}
use Rattle.std.proofs.lemmas.Bool.{cases_lt}
use Rattle.htn_base.specs.Limits.{longest_input, longest_output, most_slots, most_steps}
use Rattle.text_forms.specs.sheets.Sheets.{capped}
use Rattle.hddl_reader.specs.declared.sections.Language.TheVariants as language
use Rattle.command_words.specs.declared.form.PrintedForm.TheVariants.{Stack}
use Rattle.command_words.specs.Bounds.{IsNumeral}
use Rattle.command_words.specs.Names.{Word}
use Rattle.command_words.specs.Words.{DecodeRequest, to_decode, number_of}
use Rattle.plan_model.specs.declared.steps.GroundAction.{GroundAction}
use Rattle.plan_model.specs.declared.values.Compiled.{Compiled}
use Rattle.plan_text.specs.Plans.{IsPlanRead}
use Rattle.hplan_text.specs.declared.values.HPlan.{HPlan}
use Rattle.hplan_text.specs.HPlanText.{hplan_text}
use Rattle.text_answers.specs.Existence.{FaultlessHddlHasAValue}
use Rattle.text_answers.specs.Plans.{PlanIsReadOrRefused}
use Rattle.text_answers.proofs.Plans.{plan_told}
use Rattle.text_values.specs.TextFaults.{IsLeastFault, in_domain, in_problem}
use Rattle.htn_cli.specs.Answer.{told_alone}
use Rattle.htn_cli.specs.Decoding.{SpellSteps, SpellFewSteps, SpellFormSteps, IsForSlots}
use Rattle.htn_cli.specs.Levels.{IsBoundAt}
use Rattle.htn_cli.specs.LeastFaults.{of_problem, of_third}
use Rattle.htn_cli.specs.PrintedForms.{IsOrderedFor, NamesUnordered}
use Rattle.htn_cli.specs.Problem.{SpellProblem}
use Rattle.htn_cli.specs.Requests.{IsWithin}
use Rattle.htn_cli.specs.ShownForms.{SpellShownAs}
use Rattle.htn_cli.specs.Translation.{AreSlotsOf}
use Rattle.htn_cli.specs.declared.refusal.Finding.TheVariants as finding
use Rattle.htn_cli.specs.declared.refusal.Limit.TheVariants as limit
use Rattle.htn_cli.specs.declared.refusal.Refusal.TheVariants as refused
use Rattle.htn_cli.proofs.ByForm.{ordered_or_not}
use Rattle.htn_cli.proofs.DecodedByForm.{AreDecodedSomehow, EachIsDecodedSomehowAs}
use Rattle.htn_cli.proofs.Leavings.{positive}
use Rattle.htn_cli.proofs.SomeInputs.{Finished, declined_texts, given_output, by_fault}
use Rattle.htn_cli.proofs.SomeProblem.{Fault, Problem, fault_or_problem, Bounded, bound_is, cycle_is, much_is, bounded}

-- a length past the limit is past it as far as it is counted
past_capped : (n : ℕ) → longest_output < n → longest_output < capped n
past_capped n past = omega (arith, past)

module _ (value : FaultlessHddlHasAValue) (somehow : EachIsDecodedSomehowAs) (request : DecodeRequest) (d p s : List ℕ) (domain_short : length d ≤ longest_input) (problem_short : length p ≤ longest_input) where
  abbrev Has : Type 0
  Has = Finished (to_decode request) (d ∷ p ∷ s ∷ [])

  abbrev Source : Type 0
  Source = Problem value d p domain_short problem_short request.checks

  module _ (c : Compiled) (is : SpellProblem d p request.checks c) (steps : List GroundAction) (read : IsPlanRead s steps) where
    spell : SpellSteps request d p s c steps
    spell = record { problem_is = is; list = read }

    module _ (few : length steps ≤ most_steps) where
      within_steps : SpellFewSteps request d p s c steps
      within_steps = record { spelled = spell; few = few }

      -- what is shown, or where it fails
      module _ (slots : ℕ) (source : IsForSlots request d p s c steps slots) where
        by_length : (shown : HPlan) → SpellShownAs request.form c slots steps shown → (longest_output < length (hplan_text shown)) ⊎ (length (hplan_text shown) ≤ longest_output) → Has
        by_length shown x (inl past) =
            declined_texts (refused.Limit (limit.Output (capped (length (hplan_text shown)))))
            (c, steps, slots, hplan_text shown, source, (shown, x, refl), refl, past_capped (length (hplan_text shown)) past)
        by_length shown x (inr fits) =
            given_output (told_alone (hplan_text shown)) (c, steps, slots, hplan_text shown, source, (shown, x, refl), refl) fits

        by_decoding : AreDecodedSomehow request.form c slots steps → Has
        by_decoding (inl (shown, x)) = by_length shown x (cases_lt longest_output (length (hplan_text shown)))
        by_decoding (inr (n, why, fails)) = declined_texts (refused.Finding (finding.SpellsNoSolution n why)) (c, steps, slots, source, fails)

      -- of a problem that the form takes
      module _ (ordered : IsOrderedFor request.form c) where
        for_form : SpellFormSteps request d p s c steps
        for_form = record { spelled = within_steps; ordered = ordered }

        decoded : (slots : ℕ) → AreSlotsOf request.level c request.numeral slots → 1 ≤ slots → slots ≤ most_slots → Has
        decoded slots are some few_slots =
            by_decoding slots (record { spelled = within_steps; ordered = ordered; slots_are = are; some_slot = some; few_slots = few_slots })
            (somehow request.form is.value request.checks c slots steps
            (record { sound = is.read.sound; ordered = is.read.ordered; compiled = is.compiled_is; some_slot = some; few_slots = few_slots }) ordered)

        -- where no number is given, the bound
        by_bound : request.numeral ≡ None → (n : ℕ) → IsBoundAt request.level c n → (n < 2 ^ 128) ⊎ (2 ^ 128 ≤ n) → (most_slots < n) ⊎ (n ≤ most_slots) → Has
        by_bound none n b (inr past) _ = declined_texts (refused.Limit limit.Bound) (none, (c, steps, n, for_form, b, past))
        by_bound none n b (inl small) (inl many) = declined_texts (refused.Limit (limit.Slots n)) (none, (c, steps, n, for_form, b, (refl, many, small)))
        by_bound none n b (inl small) (inr few_slots) = decoded n (subst (λ o. AreSlotsOf request.level c o n) (sym none) b) (positive request.level c n b) few_slots

        of_bound : request.numeral ≡ None → Bounded value d p domain_short problem_short request.checks request.level c → Has
        of_bound none (much_is past) = declined_texts (refused.Limit limit.Ground) (none, (c, steps, for_form, past))
        of_bound none (cycle_is words named) = declined_texts (refused.Finding (finding.NotTailRecursive words)) (none, (c, steps, for_form, named))
        of_bound none (bound_is n b) = by_bound none n b (cases_lt n (2 ^ 128)) (cases_lt most_slots n)

        by_numeral : IfSome request.numeral IsNumeral → IsWithin (to_decode request) → (o : Option Word) → request.numeral ≡ o → Has
        by_numeral numbered within None e = of_bound e (bounded value d p domain_short problem_short request.checks request.level (c, is))
        by_numeral numbered within (Some numeral) e =
            let some = subst (λ o. IfSome o IsNumeral) e numbered in
            let few_slots : number_of numeral ≤ most_slots = subst (λ o. IfSome (option_map number_of o) (λ n. n ≤ most_slots)) e within in
            decoded (number_of numeral) (subst (λ o. AreSlotsOf request.level c o (number_of numeral)) (sym e) refl) some.above_zero few_slots

      -- where the methods are not all totally ordered, a stack is declined
      by_order : IfSome request.numeral IsNumeral → IsWithin (to_decode request) → IsOrderedFor request.form c ⊎ ((request.form ≡ Stack) × ((word : List ℕ) × NamesUnordered c word)) → Has
      by_order numbered within (inl ordered) = by_numeral ordered numbered within request.numeral refl
      by_order numbered within (inr (stack, (word, named))) = declined_texts (refused.Finding (finding.NotTotallyOrdered word)) (stack, (c, steps, within_steps, named))

    by_count : IfSome request.numeral IsNumeral → IsWithin (to_decode request) → (most_steps < length steps) ⊎ (length steps ≤ most_steps) → Has
    by_count numbered within (inl many) = declined_texts (refused.Limit (limit.Steps (length steps))) (c, steps, spell, refl, many)
    by_count numbered within (inr few) = by_order few numbered within (ordered_or_not c request.form)

  by_plan : IfSome request.numeral IsNumeral → IsWithin (to_decode request) → Source → PlanIsReadOrRefused s → Has
  by_plan numbered within (c, is) (inl (steps, read)) = by_count c is steps read numbered within (cases_lt most_steps (length steps))
  by_plan numbered within (c, is) (inr (f, x)) = by_fault (to_decode request) (d ∷ p ∷ s ∷ []) 2 request.plan f.at f.code refl (of_third is.read.faultless x)

  by_file : (file code at : ℕ) → IsLeastFault language.Hddl d p file code at → Has
  by_file file code at (in_domain x) = by_fault (to_decode request) (d ∷ p ∷ s ∷ []) 0 request.domain at code refl (of_problem (in_domain x))
  by_file file code at (in_problem t raw good x) = by_fault (to_decode request) (d ∷ p ∷ s ∷ []) 1 request.problem at code refl (of_problem (in_problem t raw good x))

  by_meaning : (Source → Has) → Fault value d p domain_short problem_short request.checks ⊎ Source → Has
  by_meaning go (inl (file, code, at, x)) = by_file file code at x
  by_meaning go (inr x) = go x

  pub decoding_finished : IfSome request.numeral IsNumeral → IsWithin (to_decode request) → Has
  decoding_finished numbered within =
      by_meaning (λ x. by_plan numbered within x (plan_told s)) (fault_or_problem value d p domain_short problem_short request.checks)
