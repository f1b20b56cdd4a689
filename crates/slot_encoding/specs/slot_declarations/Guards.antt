-- The types of guards, as the list of them grows.
-- Source: this project's.
use Rattle.std.specs.Prelude.{ℕ, nat_eq, not, cond, List, [], ◌∷◌, ◌++◌}
use Rattle.std.specs.List.{list_any}
use Rattle.plan_model.specs.declared.networks.Guard.{Guard}
use Rattle.plan_model.specs.declared.schemas.MethodPlan.{MethodPlan}

-- the types so far, and one more where it is new
abbrev pub with_type : List ℕ → ℕ → List ℕ
with_type types ty = cond (not (list_any (λ u. nat_eq u ty) types)) (types ++ ty ∷ []) types

abbrev pub with_types : List ℕ → List Guard → List ℕ
with_types types [] = types
with_types types (g ∷ gs) = with_types (with_type types g.ty) gs

abbrev pub with_all_types : List ℕ → List MethodPlan → List ℕ
with_all_types types [] = types
with_all_types types (plan ∷ plans) = with_all_types (with_types types plan.guards) plans
