-- What an encoding gives, or leaves that is refused, from what its steps do.
use Rattle.std.proofs.Common.{ℕ, ◌≡◌, ◌<◌, ◌≤◌, List, [], ◌∷◌, length, Option, Some, None, IfSome, option_map, refl, sym, ap, subst, inl, inr, arith}
use Rattle.htn_base.specs.Limits.{longest_output, most_lines, most_slots}
use Rattle.hddl_reader.specs.declared.sections.Language.TheVariants as language
use Rattle.text_values.specs.TextFaults.{IsLeastFault}
use Rattle.plan_model.specs.declared.values.Compiled.{Compiled}
use Rattle.hplan_text.specs.declared.values.HPlan.{HPlan}
use Rattle.hplan_text.specs.Reading.{IsHPlanRead}
use Rattle.command_words.specs.Names.{Word}
use Rattle.command_words.specs.Words.{EncodeRequest, to_encode, number_of}
use Rattle.htn_cli.specs.Answer.{told_alone}
use Rattle.htn_cli.specs.EncodeStops.{IsFaultOfHPlan, StopsLines, StopsPlacing, StopsSteps, AreToldFor, StopsEncoding}
use Rattle.htn_cli.specs.Encoding.{IsFound, count_of, slots_of, SpellHPlan, SpellFewLines, SpellFormLines, GivesSteps}
use Rattle.htn_cli.specs.LeastFaults.{IsLeastWithHPlan, of_problem, of_third}
use Rattle.htn_cli.specs.PrintedForms.{IsOrderedFor}
use Rattle.htn_cli.specs.Problem.{SpellProblem}
use Rattle.htn_cli.specs.Requests.{inputs_of}
use Rattle.htn_cli.specs.SpelledForms.{IsTextAs}
use Rattle.htn_cli.specs.Stops.{StopsFault, StopsTexts, StopsOrder, IsGiven}
use Rattle.htn_cli.specs.declared.refusal.Failure.TheVariants as failure
use Rattle.htn_cli.specs.declared.refusal.Finding.TheVariants as finding
use Rattle.htn_cli.specs.declared.refusal.Limit.TheVariants as limit
use Rattle.htn_cli.specs.declared.refusal.Refusal.{Refusal}
use Rattle.htn_cli.specs.declared.refusal.Refusal.TheVariants as refused
use Rattle.htn_cli.proofs.Decodings.{fault_among}
use Rattle.htn_cli.proofs.Leavings.{fault_stops}

-- the number of slots that is given is that of the numeral, and is not too great
pub given_few : (numeral : Option Word) (given : Option ℕ) → IsGiven most_slots numeral given → IfSome given (λ n. n ≤ most_slots)
given_few numeral None is = tt
given_few None (Some slots) is = absurd is
given_few (Some word) (Some slots) is = is.few

given_same : (numeral : Option Word) (given : Option ℕ) → IsGiven most_slots numeral given → given ≡ option_map number_of numeral
given_same None None is = refl
given_same (Some word) (Some slots) is = ap Some is.same
given_same None (Some slots) is = absurd is
given_same (Some word) None is = absurd is

none_given : (numeral : Option Word) (given : Option ℕ) → IsGiven most_slots numeral given → given ≡ None → numeral ≡ None
none_given None given is e = refl
none_given (Some word) None is e = absurd is
none_given (Some word) (Some slots) is e = absurd (cc)

-- the third is one of three files
pub hplan_of_three : (hplan : List ℕ) (file code at : ℕ) → IsFaultOfHPlan hplan file code at → file < 3
hplan_of_three hplan file code at (e, f) = omega (arith, e)

module _ (r : EncodeRequest) (d p hplan : List ℕ) where
  abbrev Stopped : Refusal → Type 0
  Stopped = StopsTexts (to_encode r) (d ∷ p ∷ hplan ∷ [])

  -- the texts of the domain and the problem have a fault
  pub problem_stops : (refusal : Refusal) → StopsFault (r.domain ∷ r.problem ∷ []) (IsLeastFault language.Hddl d p) refusal → Stopped refusal
  problem_stops refusal stops =
      fault_stops (to_encode r) (d ∷ p ∷ hplan ∷ []) refusal
      (fault_among (r.domain ∷ r.problem ∷ []) (r.hplan ∷ []) (IsLeastFault language.Hddl d p) (IsLeastWithHPlan d p hplan) (λ file code at is. of_problem is) refusal stops)

  module _ (c : Compiled) (spelled : SpellProblem d p r.checks c) (g : Option ℕ) (is : IsGiven most_slots r.numeral g) where
    third_least : (file code at : ℕ) → IsFaultOfHPlan hplan file code at → IsLeastWithHPlan d p hplan file code at
    third_least file code at (e, f) = subst (λ z. IsLeastWithHPlan d p hplan z code at) (sym e) (of_third spelled.read.faultless f)

    third_stops : (refusal : Refusal) → StopsFault (inputs_of (to_encode r)) (IsFaultOfHPlan hplan) refusal → Stopped refusal
    third_stops refusal stops =
        fault_stops (to_encode r) (d ∷ p ∷ hplan ∷ []) refusal
        (fault_among (inputs_of (to_encode r)) [] (IsFaultOfHPlan hplan) (IsLeastWithHPlan d p hplan) third_least refusal stops)

    same : g ≡ slots_of r
    same = given_same r.numeral g is

    module _ (plan : HPlan) (read : IsHPlanRead hplan plan) where
      spell : SpellHPlan r d p hplan c plan
      spell = record { problem_is = spelled; read = read }

      lines_stop : (refusal : Refusal) → StopsLines plan refusal → Stopped refusal
      lines_stop (refused.Limit (limit.Lines n)) (e, past) = inr (c, plan, spell, e, past)
      lines_stop _ stops = absurd stops

      module _ (few : count_of plan ≤ most_lines) where
        spell_few : SpellFewLines r d p hplan c plan
        spell_few = record { spelled = spell; few = few }

        order_stops : (refusal : Refusal) → StopsOrder r.form c refusal → Stopped refusal
        order_stops (refused.Finding (finding.NotTotallyOrdered word)) (stack, named) = inr (inl (stack, (c, plan, spell_few, named)))
        order_stops (refused.Failure failure.Memory) stops = tt
        order_stops _ stops = absurd stops

        module _ (ordered : IsOrderedFor r.form c) where
          spell_form : SpellFormLines r d p hplan c plan
          spell_form = record { spelled = spell_few; ordered = ordered }

          placing_stops : (refusal : Refusal) → StopsPlacing r.form c g plan refusal → Stopped refusal
          placing_stops (refused.Finding f) found = inr (inr (c, plan, spell_form, subst (λ z. IsFound c plan z f) same found))
          placing_stops (refused.Limit (limit.Slots n)) (none, wide, past) = inr (none_given r.numeral g is none, (c, plan, spell_form, wide, past))
          placing_stops (refused.Limit (limit.Output n)) (text, has, e, past) = inr (c, plan, text, spell_form, subst (λ z. IsTextAs r.form c plan z text) same has, e, past)
          placing_stops (refused.Failure failure.Memory) stops = tt
          placing_stops _ stops = absurd stops

      steps_stop : (refusal : Refusal) → StopsSteps r.form c g plan refusal → Stopped refusal
      steps_stop refusal (inl stops) = lines_stop refusal stops
      steps_stop refusal (inr (few, inl stops)) = order_stops few refusal stops
      steps_stop refusal (inr (few, inr (ordered, stops))) = placing_stops few ordered refusal stops

    -- the third has a fault, or its plan gives no text
    pub encoding_stops : (refusal : Refusal) → StopsEncoding r.form c g (inputs_of (to_encode r)) hplan refusal → Stopped refusal
    encoding_stops refusal (inl stops) = third_stops refusal stops
    encoding_stops refusal (inr (plan, read, stops)) = steps_stop plan read refusal stops

    -- what is told
    pub gives_steps : (text : List ℕ) → AreToldFor r.form c g hplan text → GivesSteps r d p hplan (told_alone text)
    gives_steps text (plan, read, are) = (c, plan, text, spell_form plan read are.few are.ordered, subst (λ z. IsTextAs r.form c plan z text) same are.text_is, refl)

    pub steps_fit : (text : List ℕ) → AreToldFor r.form c g hplan text → length text ≤ longest_output
    steps_fit text (plan, read, are) = are.fits
