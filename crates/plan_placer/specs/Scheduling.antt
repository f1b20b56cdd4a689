-- What the schedule of a plan's tree is made of.
-- Source: this project's.
use Rattle.std.specs.Prelude.{ℕ, ◌≡◌, List}
use Rattle.plan_model.specs.declared.values.Compiled.{Compiled}
use Rattle.plan_model.specs.task_networks.Tree.{Tree, Label, Address}
use Rattle.plan_model.specs.task_networks.Preorder.{preorder}
use Rattle.plan_model.specs.plan_meaning.Network.{network}
use Rattle.hplan_text.specs.declared.values.HPlan.{HPlan}
use Rattle.tree_core.specs.declared.growth.Scheduled.{Scheduled}
use Rattle.tree_core.specs.Tables.{table}
use Rattle.tree_core.specs.Labels.{labels, labelled}
use Rattle.tree_core.specs.Runs.{AreAt}
use Rattle.state_history.specs.declared.history.History.{History}
use Rattle.state_history.specs.Histories.{state_in}
use Rattle.plan_encoder.specs.Laws.{actions, HasTree}
use Rattle.node_conditions.specs.declared.stands.Stands.{Stands}
use Rattle.node_conditions.specs.Standing.{RowMayStand}
use Rattle.node_conditions.specs.Stands.{AreStands}
use Rattle.plan_trees.specs.declared.plan_tree.PlanTree.{PlanTree}
use Rattle.plan_placer.specs.declared.place_error.PlaceError.{PlaceError}
use Rattle.plan_placer.specs.Executed.{HasReached}
use Rattle.plan_placer.specs.Placing.{IsPlacedRun, RefusesPlace}

module _ (c : Compiled) (made : PlanTree) (history : History) where
  -- the rows are those of a tree of the plan, and the history is that of its primitives, after which the goal is true
  pub record IsReached (plan : HPlan) : Type 0 where
    pub tree : Tree (network c)
    pub node : ℕ → Address
    pub done : List (Label (network c))
    pub has : HasTree c plan tree node done
    pub rows : made.tree ≡ table labels (labelled c tree)
    pub places : AreAt (preorder (network c) tree) made.actions (actions c plan node)
    pub reached : HasReached c done history

  -- of each plan
  abbrev pub IsScheduled : Scheduled → Type 0
  IsScheduled run = (plan : HPlan) → IsReached plan → IsPlacedRun c plan run

  abbrev pub HasNoSchedule : PlaceError → Type 0
  HasNoSchedule error = (plan : HPlan) → IsReached plan → RefusesPlace c plan error

  -- the gaps and the values that a pass over the tree finds
  abbrev pub AreFound : Stands → Type 0
  AreFound = AreStands (RowMayStand c made.tree (state_in history)) c made.tree made.actions
