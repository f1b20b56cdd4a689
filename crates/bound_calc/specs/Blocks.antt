-- The greatest number of a block of a method, from the numbers of its children.
-- Source: this project's, after the progression bound of Alford et al., "Bound to Plan", ICAPS 2016.
use Rattle.std.specs.Prelude.{ℕ, ◌≡◌, ◌≤◌, ◌⊎◌, ◌^◌, List, slice_get, slice_index, Contains, Option, Some, None}
use Rattle.std.specs.List.{sum_by}
use Rattle.std.specs.Option.{option_map_or}
use Rattle.plan_model.specs.declared.networks.Head.{Head}
use Rattle.plan_model.specs.declared.networks.Head.TheVariants.{Task, Action, Check}
use Rattle.plan_model.specs.declared.networks.Child.{Child}
use Rattle.plan_model.specs.declared.schemas.MethodPlan.{MethodPlan}
use Rattle.plan_model.specs.Pairs.{Pairs}
use Rattle.plan_model.specs.task_networks.Bound.{AreBlocks, weight}
use Rattle.bound_calc.specs.declared.stratifier.ranks.Ranks.{Ranks}
use Rattle.bound_calc.specs.stratifier.Stratified.{number_of}
use Rattle.bound_calc.specs.declared.groups.BoundError.{BoundError}
use Rattle.bound_calc.specs.declared.groups.BoundError.TheVariants.{Past128, Memory}

-- what a child counts, where each group of tasks has its number: an action and a check count one
abbrev pub head_number : Ranks → List ℕ → Head → ℕ
head_number ranks numbers (Task t) = slice_index numbers (number_of ranks t)
head_number ranks numbers (Action a) = 1
head_number ranks numbers Check = 1

abbrev pub child_number : Ranks → List ℕ → MethodPlan → ℕ → ℕ
child_number ranks numbers plan i = option_map_or (λ (child : Child). head_number ranks numbers child.head) (slice_get plan.schema.children i) 1

-- where number i is the number of child i, and block i its block
module _ (plan : MethodPlan) (number : ℕ → ℕ) where
  -- the number of the block of child i
  abbrev pub block_number : (ℕ → ℕ) → ℕ → ℕ
  block_number block i = sum_by (λ j. weight (block i) (block j) (number j)) plan.line

  -- the greatest number of a block, or 1 where that is less
  pub record IsGreatestBlock (n : ℕ) : Type 0 where
    pub above : (block : ℕ → ℕ) (i : ℕ) → AreBlocks (Pairs plan.schema.pairs) plan.line block → Contains plan.line i → block_number block i ≤ n
    pub attained : (block : ℕ → ℕ) → AreBlocks (Pairs plan.schema.pairs) plan.line block → (n ≡ 1) ⊎ ((i : ℕ) × Contains plan.line i × (n ≡ block_number block i))

  -- the number of a block is past 128 bits
  abbrev pub HasPastBlock : Type 0
  HasPastBlock = (block : ℕ → ℕ) → AreBlocks (Pairs plan.schema.pairs) plan.line block → (i : ℕ) × Contains plan.line i × (2 ^ 128 ≤ block_number block i)

-- over the numbers of the groups so far
module _ (ranks : Ranks) (numbers : List ℕ) (plan : MethodPlan) where
  abbrev pub IsGreatest : ℕ → Type 0
  IsGreatest = IsGreatestBlock plan (child_number ranks numbers plan)

  abbrev pub IsPast : Type 0
  IsPast = HasPastBlock plan (child_number ranks numbers plan)

  abbrev pub IsGreatestOrPast : Option ℕ → Type 0
  IsGreatestOrPast None = IsPast
  IsGreatestOrPast (Some n) = IsGreatest n

  abbrev pub IsPastBy : BoundError → Type 0
  IsPastBy Past128 = IsPast
  IsPastBy Memory = Unit {0}
