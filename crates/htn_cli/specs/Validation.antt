-- Whether a text holds a plan of two PDDL texts: when they are refused, and what is given.
-- Source: this project's; a plan as in Fox and Long, "PDDL2.1", JAIR 20, 2003, level 1, without times.
use Rattle.std.specs.Prelude.{ℕ, ◌≡◌, ◌<◌, ◌≤◌, List, length}
use Rattle.htn_base.specs.Limits.{most_steps}
use Rattle.plan_model.specs.declared.steps.GroundAction.{GroundAction}
use Rattle.plan_model.specs.declared.values.Pddl.{Pddl}
use Rattle.plan_model.specs.plan_meaning.ClassicalPlan.{IsPlan}
use Rattle.plan_model.specs.plan_meaning.FailingStep.{Fails}
use Rattle.text_values.specs.PddlValues.{IsValueOf}
use Rattle.plan_text.specs.Plans.{IsPlanRead}
use Rattle.htn_cli.specs.Answer.{Output, told_alone}
use Rattle.htn_cli.specs.Lines.{valid_line}
use Rattle.htn_cli.specs.declared.refusal.Finding.TheVariants as finding
use Rattle.htn_cli.specs.declared.refusal.Limit.TheVariants as limit
use Rattle.htn_cli.specs.declared.refusal.Refusal.{Refusal}
use Rattle.htn_cli.specs.declared.refusal.Refusal.TheVariants as refused

-- of the texts of a domain, a problem and a plan
module _ (domain problem plan : List ℕ) where
  -- they have no fault, and spell a problem of PDDL and a list of steps
  pub record Spell (c : Pddl) (steps : List GroundAction) : Type 0 where
    pub value : IsValueOf domain problem c
    pub list : IsPlanRead plan steps

  -- which are not too many
  pub record SpellFew (c : Pddl) (steps : List GroundAction) : Type 0 where
    pub spelled : Spell c steps
    pub few : length steps ≤ most_steps

  -- the refusals of texts without a fault
  abbrev pub RefusesPlan : Refusal → Type 0
  RefusesPlan (refused.Limit (limit.Steps n)) =
      (c : Pddl) × (steps : List GroundAction) × Spell c steps × (n ≡ length steps) × (most_steps < n)
  RefusesPlan (refused.Finding (finding.NotAPlan step why)) =
      (c : Pddl) × (steps : List GroundAction) × SpellFew c steps × Fails c steps step why
  RefusesPlan _ = ⊥

  -- the steps are a plan of the problem
  abbrev pub AreConfirmed : Type 0
  AreConfirmed = (c : Pddl) × (steps : List GroundAction) × SpellFew c steps × IsPlan c steps

  -- and what is given
  abbrev pub GivesPlan : Output → Type 0
  GivesPlan output = AreConfirmed × (output ≡ told_alone valid_line)
