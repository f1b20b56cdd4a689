-- The latest gaps of a compiled problem's tree, whose nodes are told by their addresses in the table.
-- Source: this project's.
use Rattle.std.specs.Prelude.{ℕ, ◌≡◌, List, Option, MatchOption, Some, slice_get}
use Rattle.plan_model.specs.declared.values.Compiled.{Compiled}
use Rattle.plan_model.specs.task_networks.Tree.{Tree, Address, IsGrown}
use Rattle.plan_model.specs.task_networks.Preorder.{preorder}
use Rattle.plan_model.specs.plan_meaning.Network.{network}
use Rattle.tree_core.specs.Tables.{Row, table}
use Rattle.tree_core.specs.Labels.{labels, labelled}
use Rattle.tree_core.specs.Runs.{AreAt}
use Rattle.schedules.specs.latest.Gaps.{IsPlanOf, IsGapFunction, IsLatest}

module _ (c : Compiled) (rows : List (Row labels)) (actions : List ℕ) where
  -- the rows are the tree's, and the actions are the plan's nodes, in order
  pub record IsSetting (tree : Tree (network c)) (plan : List Address) : Type 0 where
    pub rows_are : rows ≡ table labels (labelled c tree)
    pub grown : IsGrown (network c) tree
    pub places : AreAt (preorder (network c) tree) actions plan
    pub is_plan : IsPlanOf (network c) tree plan

  -- may k i: the node at address k may stand in gap i
  module _ (may : ℕ → ℕ → Type 0) where
    abbrev pub MayStand : Tree (network c) → Address → ℕ → Type 0
    MayStand tree p i = (k : ℕ) × (slice_get (preorder (network c) tree) k ≡ Some p) × may k i

    -- the gaps are those of the latest gap function, by address
    abbrev pub AreLatest : List ℕ → Type 0
    AreLatest gaps = (tree : Tree (network c)) (plan : List Address) → IsSetting tree plan
        → (gap : Address → ℕ) × ((k : ℕ) (p : Address) → slice_get (preorder (network c) tree) k ≡ Some p → slice_get gaps k ≡ Some (gap p))
        × IsLatest (network c) tree plan (MayStand tree) gap

    abbrev pub HasNone : Type 0
    HasNone = (tree : Tree (network c)) (plan : List Address) → IsSetting tree plan
        → (gap : Address → ℕ) → IsGapFunction (network c) tree plan (MayStand tree) gap → ⊥

    abbrev pub AreLatestOrNone : Option (List ℕ) → Type 0
    AreLatestOrNone found = MatchOption found HasNone AreLatest
