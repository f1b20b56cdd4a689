-- The addresses of children.
-- Source: this project's.
use Rattle.std.specs.Prelude.{ℕ, ◌≡◌, ◌↔◌, List, [], ◌∷◌, ◌++◌, get_or, slice_get, slice_set, Option, Some, None}
use Rattle.plan_model.specs.task_networks.Net.{Net}
use Rattle.plan_model.specs.task_networks.Tree.{Tree, Address}
use Rattle.plan_model.specs.task_networks.Preorder.{preorder}
use Rattle.schedule_queue.specs.declared.children.Children.{Children}

abbrev pub below : Children → ℕ → List ℕ
below children k = get_or children.by_parent.items k []

-- the lists with one more child of a parent
abbrev pub with_child : List (List ℕ) → Option ℕ → ℕ → List (List ℕ)
with_child lists None address = lists
with_child lists (Some parent) address = slice_set lists parent (get_or lists parent [] ++ address ∷ [])

module _ (N : Net) (T : Tree N) where
  -- the node p has the address k
  abbrev pub IsNode : ℕ → Address → Type 0
  IsNode k p = slice_get (preorder N T) k ≡ Some p

  -- these are all children of the node k, each at its number
  abbrev pub AreChildren : ℕ → List ℕ → Type 0
  AreChildren k addresses = (p : Address) → IsNode k p → (i y : ℕ) → (slice_get addresses i ≡ Some y) ↔ IsNode y (i ∷ p)

  abbrev pub AreChildrenOf : Children → Type 0
  AreChildrenOf children = (k : ℕ) → AreChildren k (below children k)
