-- What a list of steps is, as it is checked, and the list of a text.
-- Source: this project's; a plan and a failing step as in plan_meaning.
use Rattle.std.specs.Prelude.{ℕ, ◌≡◌, ◌<◌, ◌≤◌, List, length}
use Rattle.plan_model.specs.declared.steps.GroundAction.{GroundAction}
use Rattle.plan_model.specs.declared.values.Pddl.{Pddl}
use Rattle.plan_model.specs.plan_meaning.ClassicalPlan.{IsPlan}
use Rattle.plan_model.specs.plan_meaning.FailingStep.{Fails}
use Rattle.plan_text.specs.Plans.{IsPlanRead}
use Rattle.htn_cli.specs.declared.checked.Checked.{Checked}
use Rattle.htn_cli.specs.declared.checked.Checked.TheVariants as checked

-- a plan of at most so many steps; more steps, and how many; or at most so many, of which one fails first for a cause
abbrev pub Judges : Pddl → ℕ → List GroundAction → Checked → Type 0
Judges p most steps checked.Plan = (length steps ≤ most) × IsPlan p steps
Judges p most steps (checked.TooMany n) = (n ≡ length steps) × (most < n)
Judges p most steps (checked.Fails n w) = (length steps ≤ most) × Fails p steps n w

-- of the steps that a text spells
abbrev pub IsChecked : Pddl → List ℕ → ℕ → Checked → Type 0
IsChecked p text most c = (steps : List GroundAction) × IsPlanRead text steps × Judges p most steps c
