-- A decoding, from the texts of a domain, of a problem and of a plan: when it is refused, and what it gives.
-- Source: this project's.
use Rattle.std.specs.Prelude.{ℕ, ◌≡◌, ◌<◌, ◌≤◌, List, None, length}
use Rattle.htn_base.specs.Limits.{most_slots, most_steps, longest_output}
use Rattle.text_forms.specs.sheets.Sheets.{capped}
use Rattle.plan_model.specs.declared.steps.GroundAction.{GroundAction}
use Rattle.plan_model.specs.declared.values.Compiled.{Compiled}
use Rattle.plan_text.specs.Plans.{IsPlanRead}
use Rattle.command_words.specs.declared.form.PrintedForm.TheVariants.{Stack}
use Rattle.command_words.specs.Words.{DecodeRequest}
use Rattle.htn_cli.specs.Answer.{Output, told_alone}
use Rattle.htn_cli.specs.PrintedForms.{IsOrderedFor, NamesUnordered}
use Rattle.htn_cli.specs.Problem.{SpellProblem}
use Rattle.htn_cli.specs.ShownForms.{FailsAs, HaveTextAs}
use Rattle.htn_cli.specs.Slots.{RefusesSlots}
use Rattle.htn_cli.specs.Translation.{AreSlotsOf}
use Rattle.htn_cli.specs.declared.refusal.Finding.TheVariants as finding
use Rattle.htn_cli.specs.declared.refusal.Limit.TheVariants as limit
use Rattle.htn_cli.specs.declared.refusal.Refusal.{Refusal}
use Rattle.htn_cli.specs.declared.refusal.Refusal.TheVariants as refused
use Rattle.htn_cli.specs.Levels.{IsBoundAt, NamesCycleAt, IsPastCount}

module _ (request : DecodeRequest) (domain problem plan : List ℕ) where
  -- the texts have no fault, and spell a problem and a list of steps
  pub record SpellSteps (compiled : Compiled) (steps : List GroundAction) : Type 0 where
    pub problem_is : SpellProblem domain problem request.checks compiled
    pub list : IsPlanRead plan steps

  -- which are not too many
  pub record SpellFewSteps (compiled : Compiled) (steps : List GroundAction) : Type 0 where
    pub spelled : SpellSteps compiled steps
    pub few : length steps ≤ most_steps

  -- of a problem that is printed in the form of the request
  pub record SpellFormSteps (compiled : Compiled) (steps : List GroundAction) : Type 0 where
    pub spelled : SpellFewSteps compiled steps
    pub ordered : IsOrderedFor request.form compiled

  -- and are decoded with so many slots
  pub record IsForSlots (compiled : Compiled) (steps : List GroundAction) (slots : ℕ) : Type 0 where
    pub spelled : SpellFewSteps compiled steps
    pub ordered : IsOrderedFor request.form compiled
    pub slots_are : AreSlotsOf request.level compiled request.numeral slots
    pub some_slot : 1 ≤ slots
    pub few_slots : slots ≤ most_slots

  -- the bound of the problem, where no number of slots is given, is past a limit
  abbrev pub RefusesBoundOf : Refusal → Type 0
  RefusesBoundOf refusal = (request.numeral ≡ None)
      × ((compiled : Compiled) × (steps : List GroundAction) × (n : ℕ) × SpellFormSteps compiled steps × IsBoundAt request.level compiled n
      × RefusesSlots most_slots n refusal)

  -- the refusals of texts without a fault
  abbrev pub RefusesDecode : Refusal → Type 0
  RefusesDecode (refused.Limit (limit.Steps n)) =
      (compiled : Compiled) × (steps : List GroundAction) × SpellSteps compiled steps × (n ≡ length steps) × (most_steps < n)
  RefusesDecode (refused.Finding (finding.NotTotallyOrdered word)) = (request.form ≡ Stack)
      × ((compiled : Compiled) × (steps : List GroundAction) × SpellFewSteps compiled steps × NamesUnordered compiled word)
  RefusesDecode (refused.Finding (finding.NotTailRecursive words)) = (request.numeral ≡ None)
      × ((compiled : Compiled) × (steps : List GroundAction) × SpellFormSteps compiled steps × NamesCycleAt request.level compiled words)
  RefusesDecode (refused.Limit limit.Ground) =
      (request.numeral ≡ None) × ((compiled : Compiled) × (steps : List GroundAction) × SpellFormSteps compiled steps × IsPastCount request.level compiled)
  RefusesDecode (refused.Limit limit.Bound) = RefusesBoundOf (refused.Limit limit.Bound)
  RefusesDecode (refused.Limit (limit.Slots n)) = RefusesBoundOf (refused.Limit (limit.Slots n))
  RefusesDecode (refused.Finding (finding.SpellsNoSolution step why)) =
      (compiled : Compiled) × (steps : List GroundAction) × (slots : ℕ) × IsForSlots compiled steps slots
      × FailsAs request.form compiled slots steps step why
  RefusesDecode (refused.Limit (limit.Output n)) =
      (compiled : Compiled) × (steps : List GroundAction) × (slots : ℕ) × (text : List ℕ) × IsForSlots compiled steps slots
      × HaveTextAs request.form compiled slots steps text × (n ≡ capped (length text)) × (longest_output < n)
  RefusesDecode _ = ⊥

  -- and what is given: the text of the hierarchical plan that the steps show
  abbrev pub GivesTree : Output → Type 0
  GivesTree output =
      (compiled : Compiled) × (steps : List GroundAction) × (slots : ℕ) × (text : List ℕ) × IsForSlots compiled steps slots
      × HaveTextAs request.form compiled slots steps text × (output ≡ told_alone text)
