-- What the order of a schedule is made of, by the addresses in a table, and what it is then.
-- Source: this project's.
use Rattle.std.specs.Prelude.{ℕ, ◌≡◌, List, Some, slice_get}
use Rattle.plan_model.specs.task_networks.Tree.{Tree, Address, IsGrown}
use Rattle.plan_model.specs.task_networks.Preorder.{preorder}
use Rattle.plan_model.specs.declared.values.Compiled.{Compiled}
use Rattle.plan_model.specs.plan_meaning.Network.{network}
use Rattle.tree_core.specs.Tables.{Row, table}
use Rattle.tree_core.specs.Labels.{labels, labelled}
use Rattle.tree_core.specs.Runs.{AreAt}
use Rattle.schedules.specs.latest.Gaps.{IsPlanOf, IsGapFunction}
use Rattle.schedules.specs.latest.LatestSchedule.{IsScheduleOf}

module _ (c : Compiled) where
  -- the rows are T's table, the addresses are those of the plan's nodes, and the numbers are the gaps of all nodes
  pub record IsSetting (rows : List (Row labels)) (actions gaps : List ℕ) (T : Tree (network c)) (plan : List Address)
      (gap : Address → ℕ) : Type 0 where
    pub rows_are : rows ≡ table labels (labelled c T)
    pub grown : IsGrown (network c) T
    pub actions_are : AreAt (preorder (network c) T) actions plan
    pub is_plan : IsPlanOf (network c) T plan
    pub gaps_are : (k : ℕ) (p : Address) → slice_get (preorder (network c) T) k ≡ Some p → slice_get gaps k ≡ Some (gap p)
    pub fits : IsGapFunction (network c) T plan (λ p i. Unit {0}) gap

  -- the addresses of the schedule of these gaps
  abbrev pub IsOrderOf : Tree (network c) → List Address → (Address → ℕ) → List ℕ → Type 0
  IsOrderOf T plan gap order = (nodes : List Address) × AreAt (preorder (network c) T) order nodes
      × IsScheduleOf (network c) T plan gap nodes
