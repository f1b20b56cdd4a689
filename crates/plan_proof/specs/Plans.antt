-- One plan alone, and none: of a printed problem, and of two printed texts.
-- Source: this project's.
use Rattle.std.specs.Prelude.{ℕ, ◌≡◌, ◌↔◌, List, [], ◌∷◌, codes}
use Rattle.plan_model.specs.declared.steps.GroundAction.{GroundAction}
use Rattle.plan_model.specs.declared.values.Pddl.{Pddl}
use Rattle.plan_texts.specs.PrintedTexts.{domain_text, problem_text}
use Rattle.plan_model.specs.plan_meaning.ClassicalPlan.{IsPlan}
use Rattle.plan_proof.specs.TextPlans.{IsPlanOf}

-- the action with this name, at slot 1
abbrev pub at_slot_1 : List ℕ → GroundAction
at_slot_1 name = record { name = name; args = codes "htn_s1" ∷ [] }

-- (htn_start htn_s1) (htn_m_m htn_s1) (a htn_s1)
abbrev pub start_m_a : List GroundAction
start_m_a = at_slot_1 (codes "htn_start") ∷ at_slot_1 (codes "htn_m_m") ∷ at_slot_1 (codes "a") ∷ []

module _ (steps : List GroundAction) where
  -- a list is a plan exactly where it is this one
  abbrev pub IsOnlyPlan : Pddl → Type 0
  IsOnlyPlan p = (list : List GroundAction) → IsPlan p list ↔ (list ≡ steps)

  abbrev pub IsOnlyPlanOfTexts : (domain problem : List ℕ) → Type 0
  IsOnlyPlanOfTexts domain problem = (list : List GroundAction) → IsPlanOf domain problem list ↔ (list ≡ steps)

  -- of the two texts that are printed of a value
  abbrev pub IsOnlyPrintedPlan : Pddl → Type 0
  IsOnlyPrintedPlan p = IsOnlyPlanOfTexts (domain_text p) (problem_text p)

-- no list is a plan
abbrev pub HasNoPlan : Pddl → Type 0
HasNoPlan p = (list : List GroundAction) → IsPlan p list → ⊥

abbrev pub HaveNoPlan : (domain problem : List ℕ) → Type 0
HaveNoPlan domain problem = (list : List GroundAction) → IsPlanOf domain problem list → ⊥
