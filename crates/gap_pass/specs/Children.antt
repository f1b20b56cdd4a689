-- The children of nodes, by their addresses in the table.
-- Source: this project's.
use Rattle.std.specs.Prelude.{ℕ, ◌≡◌, ◌<◌, ◌↔◌, List, [], ◌∷◌, length, Some, get_or, slice_get}
use Rattle.plan_model.specs.task_networks.Tree.{Tree, Address}
use Rattle.plan_model.specs.task_networks.Preorder.{preorder}
use Rattle.tree_core.specs.Tables.{Row, table}
use Rattle.tree_core.specs.Labels.{labels}

-- the node at this place
abbrev pub IsAt : Tree labels → ℕ → Address → Type 0
IsAt tree k p = slice_get (preorder labels tree) k ≡ Some p

-- child i of the node stands at the i-th of these places
abbrev pub AreChildrenOf : List (Row labels) → ℕ → List ℕ → Type 0
AreChildrenOf rows k children = (tree : Tree labels) (p : Address) → rows ≡ table labels tree → IsAt tree k p
    → (i x : ℕ) → (slice_get children i ≡ Some x) ↔ IsAt tree x (i ∷ p)

abbrev pub children_at : List (List ℕ) → ℕ → List ℕ
children_at children k = get_or children k []

-- those of each node
abbrev pub AreAllChildren : List (Row labels) → List (List ℕ) → Type 0
AreAllChildren rows children = (k : ℕ) → k < length rows → AreChildrenOf rows k (children_at children k)
