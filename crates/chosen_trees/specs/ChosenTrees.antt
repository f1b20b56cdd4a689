-- A tree of a compiled problem whose methods have other values, as a table.
-- Source: this project's.
use Rattle.std.specs.Prelude.{ℕ, ◌≡◌, List, [], Some, slice_get, slice_index_or}
use Rattle.plan_model.specs.declared.values.Compiled.{Compiled}
use Rattle.plan_model.specs.task_networks.Tree.{Tree, used, Address, label_at, work_of, IsGrown}
use Rattle.plan_model.specs.task_networks.Preorder.{preorder}
use Rattle.plan_model.specs.plan_meaning.Network.{GroundMethod, network}
use Rattle.plan_model.specs.plan_meaning.Solution.{top_work}
use Rattle.tree_core.specs.Tables.{Row, table}
use Rattle.tree_core.specs.Labels.{labels, labelled}
use Rattle.plan_encoder.specs.ChosenValues.{with_values, chosen, asking}

module _ (c : Compiled) where
  -- The rows are those of a grown tree of the top task. Each node has the values that stand in the list at the place of the node that asks
  -- for them, and with them its method decomposes the same task.
  pub record IsSetting (rows : List (Row labels)) (list : List (List ℕ)) (tree : Tree (network c)) (values : Address → List ℕ) : Type 0 where
    pub rows_are : rows ≡ table labels (labelled c tree)
    pub grown : IsGrown (network c) tree
    pub root : work_of (network c) tree ≡ top_work c
    pub values_are : (k j : ℕ) (p : Address) → slice_get (preorder (network c) tree) k ≡ Some p
        → slice_get (preorder (network c) tree) j ≡ Some (asking c tree p) → values p ≡ slice_index_or list j []
    pub same_task : (p : Address) (g : GroundMethod) → label_at (network c) tree p ≡ Some (used g)
        → (network c).head (with_values g (values p)) ≡ (network c).head g

  -- the rows that are made are those of the tree with these values
  abbrev pub IsChosenTree : List (Row labels) → List (List ℕ) → List (Row labels) → Type 0
  IsChosenTree rows list made = (tree : Tree (network c)) (values : Address → List ℕ) → IsSetting rows list tree values
      → made ≡ table labels (labelled c (chosen c tree values))
