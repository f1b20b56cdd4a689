-- What a decoding gives, or leaves that is refused, from what its steps do.
use Rattle.std.proofs.Common.{ℕ, ◌≡◌, ◌<◌, ◌≤◌, ◌++◌, List, [], ◌∷◌, length, Option, Some, None, IfSome, refl, sym, ◌∙◌, subst, inl, inr, arith}
use Rattle.htn_base.specs.Limits.{longest_output, most_slots, most_steps}
use Rattle.hddl_reader.specs.declared.sections.Language.TheVariants as language
use Rattle.text_values.specs.TextFaults.{IsLeastFault}
use Rattle.plan_model.specs.declared.steps.GroundAction.{GroundAction}
use Rattle.plan_model.specs.declared.values.Compiled.{Compiled}
use Rattle.plan_text.specs.Plans.{IsPlanRead}
use Rattle.command_words.specs.declared.level.Level.{Level}
use Rattle.command_words.specs.Names.{Word}
use Rattle.command_words.specs.Words.{DecodeRequest, to_decode}
use Rattle.htn_cli.specs.Answer.{told_alone}
use Rattle.htn_cli.specs.Decoding.{SpellSteps, SpellFewSteps, SpellFormSteps, IsForSlots, GivesTree}
use Rattle.htn_cli.specs.LeastFaults.{IsLeastWithPlan, of_problem, of_third}
use Rattle.htn_cli.specs.Levels.{IsBoundAt}
use Rattle.htn_cli.specs.PrintedForms.{IsOrderedFor}
use Rattle.htn_cli.specs.Problem.{SpellProblem}
use Rattle.htn_cli.specs.Requests.{inputs_of}
use Rattle.htn_cli.specs.Slots.{RefusesSlots}
use Rattle.htn_cli.specs.Stops.{StopsFault, StopsTexts, IsFaultOfThird, StopsOrder, StopsBound, IsGiven, IsChosen, StopsChosen, IsInRange, StopsSteps, StopsTreeWith, StopsTree, IsToldFor, StopsTelling}
use Rattle.htn_cli.specs.Translation.{AreSlotsOf}
use Rattle.htn_cli.specs.declared.refusal.Failure.TheVariants as failure
use Rattle.htn_cli.specs.declared.refusal.Finding.TheVariants as finding
use Rattle.htn_cli.specs.declared.refusal.Limit.TheVariants as limit
use Rattle.htn_cli.specs.declared.refusal.Refusal.{Refusal}
use Rattle.htn_cli.specs.declared.refusal.Refusal.TheVariants as refused
use Rattle.htn_cli.proofs.InputsRead.{next_longer}
use Rattle.htn_cli.proofs.Leavings.{fault_stops}

-- a number of slots that is given, or chosen, may be asked for
pub given_in_range : (numeral : Option Word) (given : Option ℕ) → IsGiven most_slots numeral given → IfSome given IsInRange
given_in_range numeral None is = tt
given_in_range None (Some slots) is = absurd is
given_in_range (Some word) (Some slots) is = (is.some, is.few)

pub chosen_in_range : (level : Level) (c : Compiled) (given : Option ℕ) → IfSome given IsInRange → (slots : ℕ) → IsChosen most_slots level c given slots → IsInRange slots
chosen_in_range level c None inside slots (n, bound, are) = (are.some, are.few)
chosen_in_range level c (Some n) inside slots e = subst IsInRange (sym e) inside

-- the third is one of three files
pub third_of_three : (plan : List ℕ) (file code at : ℕ) → IsFaultOfThird plan file code at → file < 3
third_of_three plan file code at (e, f) = omega (arith, e)

-- texts with a fault, among more
module _ (names more : List Word) (IsFirst IsOther : (file code at : ℕ) → Type 0) (first_is : (file code at : ℕ) → IsFirst file code at → IsOther file code at) where
  pub fault_among : (refusal : Refusal) → StopsFault names IsFirst refusal → StopsFault (names ++ more) IsOther refusal
  fault_among (refused.Fault place code) (is, free) =
      (record { file = is.file; name_is = next_longer names more is.file place.name.now is.name_is; least = first_is is.file code place.at is.least }, free)
  fault_among (refused.Limit (limit.Text counted place)) is =
      record { file = is.file; name_is = next_longer names more is.file place.name.now is.name_is; least = first_is is.file _ place.at is.least }
  fault_among (refused.Failure failure.Memory) stops = tt
  fault_among _ stops = absurd stops

module _ (r : DecodeRequest) (d p plan : List ℕ) where
  abbrev Stopped : Refusal → Type 0
  Stopped = StopsTexts (to_decode r) (d ∷ p ∷ plan ∷ [])

  -- the texts of the domain and the problem have a fault
  pub problem_stops : (refusal : Refusal) → StopsFault (r.domain ∷ r.problem ∷ []) (IsLeastFault language.Hddl d p) refusal → Stopped refusal
  problem_stops refusal stops =
      fault_stops (to_decode r) (d ∷ p ∷ plan ∷ []) refusal
      (fault_among (r.domain ∷ r.problem ∷ []) (r.plan ∷ []) (IsLeastFault language.Hddl d p) (IsLeastWithPlan language.Hddl d p plan) (λ file code at is. of_problem is) refusal stops)

  module _ (c : Compiled) (spelled : SpellProblem d p r.checks c) (g : Option ℕ) (is : IsGiven most_slots r.numeral g) where
    third_least : (file code at : ℕ) → IsFaultOfThird plan file code at → IsLeastWithPlan language.Hddl d p plan file code at
    third_least file code at (e, f) = subst (λ z. IsLeastWithPlan language.Hddl d p plan z code at) (sym e) (of_third spelled.read.faultless f)

    third_stops : (refusal : Refusal) → StopsFault (inputs_of (to_decode r)) (IsFaultOfThird plan) refusal → Stopped refusal
    third_stops refusal stops =
        fault_stops (to_decode r) (d ∷ p ∷ plan ∷ []) refusal
        (fault_among (inputs_of (to_decode r)) [] (IsFaultOfThird plan) (IsLeastWithPlan language.Hddl d p plan) third_least refusal stops)

    module _ (steps : List GroundAction) (read : IsPlanRead plan steps) where
      spell : SpellSteps r d p plan c steps
      spell = record { problem_is = spelled; list = read }

      steps_stop : (refusal : Refusal) → StopsSteps steps refusal → Stopped refusal
      steps_stop (refused.Limit (limit.Steps n)) (e, past) = inr (c, steps, spell, e, past)
      steps_stop _ stops = absurd stops

      module _ (few : length steps ≤ most_steps) where
        spell_few : SpellFewSteps r d p plan c steps
        spell_few = record { spelled = spell; few = few }

        order_stops : (refusal : Refusal) → StopsOrder r.form c refusal → Stopped refusal
        order_stops (refused.Finding (finding.NotTotallyOrdered word)) (stack, named) = inr (stack, (c, steps, spell_few, named))
        order_stops (refused.Failure failure.Memory) stops = tt
        order_stops _ stops = absurd stops

        module _ (ordered : IsOrderedFor r.form c) where
          spell_form : SpellFormSteps r d p plan c steps
          spell_form = record { spelled = spell_few; ordered = ordered }

          bound_stops : r.numeral ≡ None → (refusal : Refusal) → StopsBound r.level c refusal → Stopped refusal
          bound_stops none (refused.Finding (finding.NotTailRecursive words)) stops = inr (none, (c, steps, spell_form, stops))
          bound_stops none (refused.Limit limit.Ground) stops = inr (none, (c, steps, spell_form, stops))
          bound_stops none (refused.Limit limit.Bound) (n, bound, past) = inr (none, (c, steps, n, spell_form, bound, past))
          bound_stops none (refused.Failure failure.Memory) stops = tt
          bound_stops none _ stops = absurd stops

          computed_past : r.numeral ≡ None → (n : ℕ) → IsBoundAt r.level c n → (refusal : Refusal) → RefusesSlots most_slots n refusal → Stopped refusal
          computed_past none n bound (refused.Limit limit.Bound) stops = inr (none, (c, steps, n, spell_form, bound, stops))
          computed_past none n bound (refused.Limit (limit.Slots m)) stops = inr (none, (c, steps, n, spell_form, bound, stops))
          computed_past none n bound _ stops = absurd stops

          chosen_stops : (refusal : Refusal) → StopsChosen most_slots r.level c g refusal → Stopped refusal
          chosen_stops refusal stops = go r.numeral g is stops refl
            where
              go : (o : Option Word) (g : Option ℕ) → IsGiven most_slots o g → StopsChosen most_slots r.level c g refusal → r.numeral ≡ o → Stopped refusal
              go o (Some g) is stops e = absurd stops
              go (Some word) None is stops e = absurd is
              go None None is (inl stops) e = bound_stops e refusal stops
              go None None is (inr (n, bound, stops)) e = computed_past e n bound refusal stops

          module _ (slots : ℕ) (chosen : IsChosen most_slots r.level c g slots) where
            for_slots : IsForSlots r d p plan c steps slots
            for_slots = go r.numeral g is chosen refl
              where
                go : (o : Option Word) (g : Option ℕ) → IsGiven most_slots o g → IsChosen most_slots r.level c g slots → r.numeral ≡ o → IsForSlots r d p plan c steps slots
                go None None is (n, bound, are) e =
                    record { spelled = spell_few; ordered = ordered; slots_are = subst (λ z. AreSlotsOf r.level c z slots) (sym e) (subst (IsBoundAt r.level c) (sym are.same) bound); some_slot = are.some; few_slots = are.few }
                go None (Some g) is chosen e = absurd is
                go (Some word) None is chosen e = absurd is
                go (Some word) (Some g) is chosen e =
                    record { spelled = spell_few; ordered = ordered; slots_are = subst (λ z. AreSlotsOf r.level c z slots) (sym e) (chosen ∙ is.same); some_slot = subst (λ z. 1 ≤ z) (sym chosen) is.some; few_slots = subst (λ z. z ≤ most_slots) (sym chosen) is.few }

            with_stops : (refusal : Refusal) → StopsTreeWith r.form c slots steps refusal → Stopped refusal
            with_stops (refused.Finding (finding.SpellsNoSolution step why)) fails = inr (c, steps, slots, for_slots, fails)
            with_stops (refused.Limit (limit.Output n)) (text, have, e, past) = inr (c, steps, slots, text, for_slots, have, e, past)
            with_stops (refused.Failure failure.Memory) stops = tt
            with_stops _ stops = absurd stops

      tree_stops : (refusal : Refusal) → StopsTree r.form r.level c g steps refusal → Stopped refusal
      tree_stops refusal (inl stops) = steps_stop refusal stops
      tree_stops refusal (inr (few, inl stops)) = order_stops few refusal stops
      tree_stops refusal (inr (few, inr (ordered, inl stops))) = chosen_stops few ordered refusal stops
      tree_stops refusal (inr (few, inr (ordered, inr (slots, chosen, stops)))) = with_stops few ordered slots chosen refusal stops

    -- the third has a fault, or its steps give no text
    pub telling_stops : (refusal : Refusal) → StopsTelling r.form r.level c g (inputs_of (to_decode r)) plan refusal → Stopped refusal
    telling_stops refusal (inl stops) = third_stops refusal stops
    telling_stops refusal (inr (steps, read, stops)) = tree_stops steps read refusal stops

    -- what is told
    pub gives_tree : (text : List ℕ) → IsToldFor r.form r.level c g plan text → GivesTree r d p plan (told_alone text)
    gives_tree text (steps, read, (slots, few, ordered, chosen, (have, short))) = (c, steps, slots, text, for_slots steps read few ordered slots chosen, have, refl)

    pub tree_fits : (text : List ℕ) → IsToldFor r.form r.level c g plan text → length text ≤ longest_output
    tree_fits text (steps, read, (slots, few, ordered, chosen, (have, short))) = short
