-- Fronts: trees with a schedule of what is processed in them.
-- Source: this project's, after HTN progression as in Alford et al., "Bound to Plan", ICAPS 2016.
use Rattle.std.specs.Prelude.{◌≡◌, List}
use Rattle.plan_model.specs.task_networks.Net.{Net}
use Rattle.plan_model.specs.task_networks.Tree.{Tree, Address, work_of, IsGrown, IsOpen}
use Rattle.plan_model.specs.task_networks.Schedule.{IsSchedule}

module _ (N : Net) where
  -- a tree with open leaves, grown from the top work, with a schedule
  pub record IsFront (top : N.Work) (tree : Tree N) (order : List Address) : Type 0 where
    pub grown : IsGrown N tree
    pub root : work_of N tree ≡ top
    pub schedule : IsSchedule N tree order

  -- a front without open leaves
  pub record IsFinished (top : N.Work) (tree : Tree N) (order : List Address) : Type 0 where
    pub front : IsFront top tree order
    pub no_leaves : (p : Address) → IsOpen N tree p → ⊥
