-- Totally ordered problems: each method's children come one after another.
-- Source: Höller et al., "HDDL", AAAI 2020, totally ordered task networks; that all methods are, the top method too, is this project's wording.
use Rattle.std.specs.Prelude.{ℕ, ◌≡◌, ◌<◌, length, slice_get, Contains, Some}
use Rattle.plan_model.specs.declared.schemas.MethodPlan.{MethodPlan}
use Rattle.plan_model.specs.declared.values.Compiled.{Compiled}
use Rattle.plan_model.specs.Pairs.{Pairs}
use Rattle.plan_model.specs.task_networks.Order.{IsCut}

-- the line is cut at every place
abbrev pub IsOneAfterAnother : MethodPlan → Type 0
IsOneAfterAnother plan = (k : ℕ) → k < length plan.line → IsCut (Pairs plan.schema.pairs) plan.line k

abbrev pub IsTotallyOrdered : Compiled → Type 0
IsTotallyOrdered c = (plan : MethodPlan) → Contains c.methods plan → IsOneAfterAnother plan

-- the first method that is not, by its place
pub record IsFirstUnordered (c : Compiled) (m : ℕ) : Type 0 where
  pub plan : MethodPlan
  pub is : slice_get c.methods m ≡ Some plan
  pub unordered : IsOneAfterAnother plan → ⊥
  pub first : (k : ℕ) (other : MethodPlan) → k < m → slice_get c.methods k ≡ Some other → IsOneAfterAnother other
