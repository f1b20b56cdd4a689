-- What is proved of what the rows of a tree say: they say where its nodes may stand.
-- Source: this project's.
use Rattle.std.specs.Prelude.{ℕ, ◌≡◌, ◌↔◌, List, Some, slice_get}
use Rattle.plan_model.specs.declared.values.Compiled.{Compiled}
use Rattle.plan_model.specs.task_networks.Tree.{Tree, Label, Address, work_of, IsGrown}
use Rattle.plan_model.specs.task_networks.Preorder.{preorder}
use Rattle.plan_model.specs.plan_meaning.Network.{network}
use Rattle.plan_model.specs.plan_meaning.Solution.{top_work}
use Rattle.tree_core.specs.Tables.{Row, table}
use Rattle.tree_core.specs.Labels.{labels, labelled}
use Rattle.state_history.specs.declared.history.History.{History}
use Rattle.state_history.specs.Histories.{AreSame}
use Rattle.state_history.specs.Histories as histories
use Rattle.plan_encoder.specs.ChosenValues.{chooser, state_in, MayStand}
use Rattle.plan_encoder.specs.Laws.{MayStandSomehow, MayStandWith}
use Rattle.node_conditions.specs.Standing.{RowMayStand, RowMayStandSomehow}

module _ (c : Compiled) where
  -- the row at place k says where node p may stand: with which values, with some, and with those that are chosen for each method
  pub record IsTold (rows : List (Row labels)) (history : History) (tree : Tree (network c)) (done : List (Label (network c)))
      (k : ℕ) (p : Address) (i : ℕ) : Type 0 where
    pub each : (values : List ℕ) → RowMayStand c rows (histories.state_in history) k values i ↔ MayStand c tree done p values i
    pub somehow : RowMayStandSomehow c rows (histories.state_in history) k i ↔ MayStandSomehow c tree done p i
    pub chosen : (values : Address → List ℕ) → RowMayStand c rows (histories.state_in history) k (values (chooser c tree p)) i
        ↔ MayStandWith c tree done values p i

  -- in each gap whose state the history has
  abbrev pub RowsTellStanding : Type 0
  RowsTellStanding = (tree : Tree (network c)) (rows : List (Row labels)) (done : List (Label (network c))) (history : History)
      → IsGrown (network c) tree → work_of (network c) tree ≡ top_work c → rows ≡ table labels (labelled c tree)
      → (k : ℕ) (p : Address) (i : ℕ) → slice_get (preorder (network c) tree) k ≡ Some p
      → AreSame (histories.state_in history i) (state_in c tree done i)
      → IsTold rows history tree done k p i
