-- Pieces of the declarations that are made without a frame.
-- Source: this project's encoding, after Alford et al., "Bound to Plan", ICAPS 2016.
use Rattle.std.specs.Prelude.{ℕ, suc, cond, List, [], ◌∷◌, map, filter, take, length}
use Rattle.plan_model.specs.declared.types.Parent.{Parent}
use Rattle.plan_model.specs.declared.schemas.MethodPlan.{MethodPlan}
use Rattle.slot_encoding.specs.SourceParts.{retyped}
use Rattle.slot_encoding.specs.EncodedNames.{slot_type, object_type}

abbrev pub printed_parent : Parent → Parent
printed_parent p = record { child = retyped p.child; parent = retyped p.parent }

-- slots and what was `object` stand below `object`
abbrev pub printed_parents : List Parent → List Parent
printed_parents ps = record { child = slot_type; parent = 0 } ∷ record { child = object_type; parent = 0 } ∷ map printed_parent ps

abbrev pub checked : List MethodPlan → List MethodPlan
checked plans = filter (λ (plan : MethodPlan). plan.checked) plans

-- the numbers of the methods that have a check, the first method having number m
abbrev pub checked_from : ℕ → List MethodPlan → List ℕ
checked_from m [] = []
checked_from m (plan ∷ plans) = cond plan.checked (m ∷ checked_from (suc m) plans) (checked_from (suc m) plans)

-- how many of the first m methods have a check
abbrev pub checks_before : List MethodPlan → ℕ → ℕ
checks_before plans m = length (checked (take m plans))

-- an item where the method has a check
abbrev pub if_checked : {A : Type 0} → MethodPlan → A → List A
if_checked plan x = cond plan.checked (x ∷ []) []
