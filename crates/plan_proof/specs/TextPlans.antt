-- The plans of two PDDL texts.
-- Source: Fox and Long, "PDDL2.1", JAIR 20, 2003, level 1, over the texts' own words.
use Rattle.std.specs.Prelude.{ℕ, ◌↔◌, List}
use Rattle.plan_texts.specs.SpellsPddl.{SpellsPddl}
use Rattle.plan_model.specs.plan_meaning.ClassicalPlan.{IsPlan}
use Rattle.plan_model.specs.declared.steps.GroundAction.{GroundAction}
use Rattle.plan_model.specs.declared.values.Pddl.{Pddl}

-- a plan of a value that the texts spell
abbrev pub IsPlanOf : List ℕ → List ℕ → List GroundAction → Type 0
IsPlanOf domain problem steps = (c : Pddl) × SpellsPddl domain problem c × IsPlan c steps

-- the two texts have the plans of the value
abbrev pub HavePlansOf : (domain problem : List ℕ) → Pddl → Type 0
HavePlansOf domain problem p = (steps : List GroundAction) → IsPlanOf domain problem steps ↔ IsPlan p steps
