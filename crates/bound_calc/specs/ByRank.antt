-- The methods of the tasks that are reached, the lowest group first; and numbers for groups.
-- Source: this project's.
use Rattle.std.specs.Prelude.{ℕ, ◌≡◌, ◌<◌, ◌≤◌, ◌↔◌, List, length, Some, slice_get, Contains, All}
use Rattle.std.specs.List.Sorted.{IsNonDecreasingBy}
use Rattle.plan_model.specs.declared.schemas.MethodPlan.{MethodPlan}
use Rattle.plan_model.specs.declared.values.Compiled.{Compiled}
use Rattle.plan_model.specs.plan_meaning.Strata.{IsReachedTask}
use Rattle.bound_calc.specs.declared.stratifier.ranks.Ranks.{Ranks}
use Rattle.bound_calc.specs.stratifier.Links.{IsSubtask}
use Rattle.bound_calc.specs.stratifier.Stratified.{number_of}

-- the place is that of a method of a reached task, with the task's number
abbrev pub IsPlace : Compiled → Ranks → ℕ × ℕ → Type 0
IsPlace c ranks place = (plan : MethodPlan) × (slice_get c.methods place.1 ≡ Some plan) × IsReachedTask c plan.schema.task × (number_of ranks plan.schema.task ≡ place.0)

pub record AreByRank (c : Compiled) (ranks : Ranks) (places : List (ℕ × ℕ)) : Type 0 where
  pub all : (place : ℕ × ℕ) → Contains places place ↔ IsPlace c ranks place
  pub rising : IsNonDecreasingBy (λ (place : ℕ × ℕ). place.0) places

-- a number, at least 1, for the group of each task
pub record HaveNumbers (ranks : Ranks) (numbers : List ℕ) : Type 0 where
  pub groups : (t : ℕ) → number_of ranks t < length numbers
  pub positive : All (λ n. 1 ≤ n) numbers

-- the children's tasks have ranks
abbrev pub AreRanked : Ranks → MethodPlan → Type 0
AreRanked ranks plan = (t : ℕ) → IsSubtask plan.schema.children t → t < length ranks.numbers.items
