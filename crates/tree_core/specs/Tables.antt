-- Trees as tables: the nodes in preorder, each with its label, its parent's place, its child number, and the place after its subtree.
-- Source: this project's.
use Rattle.std.specs.Prelude.{ℕ, suc, ◌≡◌, ◌+◌, ◌<◌, ◌≤◌, ◌↔◌, List, [], ◌∷◌, ◌++◌, length, Option, Some, None, slice_get}
use Rattle.plan_model.specs.task_networks.Net.{Net}
use Rattle.plan_model.specs.task_networks.Tree.{Tree, Trees, open_leaf, done, split, none, more, Label, waits, ran, used, Address, IsAbove, at, label_at}
use Rattle.plan_model.specs.task_networks.Preorder.{preorder}

-- a root has no parent, and the child number 0
pub record Row (N : Net) : Type 0 where
  pub label : Label N
  pub parent : Option ℕ
  pub number : ℕ
  pub end : ℕ

module _ (N : Net) where
  abbrev mutual
    -- how many nodes a tree has, and trees have together
    pub size : Tree N → ℕ
    size (open_leaf w) = 1
    size (done w) = 1
    size (split m ts) = suc (sizes ts)

    pub sizes : Trees N → ℕ
    sizes none = 0
    sizes (more t ts) = size t + sizes ts

  abbrev mutual
    -- the rows of a tree whose root stands at place k, with this parent and child number; and of trees from place k on that are the children of a parent, from number i on
    pub rows_at : Option ℕ → ℕ → ℕ → Tree N → List (Row N)
    rows_at parent i k (open_leaf w) = record { label = waits w; parent = parent; number = i; end = suc k } ∷ []
    rows_at parent i k (done w) = record { label = ran w; parent = parent; number = i; end = suc k } ∷ []
    rows_at parent i k (split m ts) = record { label = used m; parent = parent; number = i; end = suc k + sizes ts } ∷ rows_from k 0 (suc k) ts

    pub rows_from : ℕ → ℕ → ℕ → Trees N → List (Row N)
    rows_from parent i k none = []
    rows_from parent i k (more t ts) = rows_at (Some parent) i k t ++ rows_from parent (suc i) (k + size t) ts

  -- the one table of a tree: a list stands for the tree whose table it is
  abbrev pub table : Tree N → List (Row N)
  table tree = rows_at None 0 0 tree

  module _ (tree : Tree N) where
    -- a row's parent and child number say where its node stands
    abbrev pub IsWay : ℕ → Row N → Address → Type 0
    IsWay k r [] = (k ≡ 0) × (r.parent ≡ None) × (r.number ≡ 0)
    IsWay k r (i ∷ q) = (r.number ≡ i) × ((x : ℕ) × (x < k) × (r.parent ≡ Some x) × (slice_get (preorder N tree) x ≡ Some q))

    -- what row k says of the node p at place k
    pub record IsRow (k : ℕ) (r : Row N) (p : Address) : Type 0 where
      pub label : label_at N tree p ≡ Some r.label
      pub way : IsWay k r p
      pub later : k < r.end
      pub within : r.end ≤ length (table tree)
      -- as far as the subtree has nodes
      pub extent : (t : Tree N) → at N tree p ≡ Some t → r.end ≡ k + size t
      -- the subtree stands from k to the end
      pub subtree : (y : ℕ) (u : Address) → slice_get (preorder N tree) y ≡ Some u → IsAbove p u ↔ ((k ≤ y) × (y < r.end))
      -- the first child is at the next place, if that is below the end
      pub first : suc k < r.end → slice_get (preorder N tree) (suc k) ≡ Some (0 ∷ p)
      -- the next sibling is at the end, if that is below the parent's end
      pub next : (x : ℕ) (up : Row N) (q : Address) → r.parent ≡ Some x → slice_get (table tree) x ≡ Some up → slice_get (preorder N tree) x ≡ Some q → r.end < up.end
          → slice_get (preorder N tree) r.end ≡ Some (suc r.number ∷ q)

  -- a list of rows that hangs together, as far as each row sees: its first child, its next sibling, its end
  pub record AreConsistent (rows : List (Row N)) : Type 0 where
    pub root : (r : Row N) × (slice_get rows 0 ≡ Some r) × (r.parent ≡ None) × (r.number ≡ 0) × (r.end ≡ length rows)
    pub later : (k : ℕ) (r : Row N) → slice_get rows k ≡ Some r → k < r.end
    -- only a decomposed task has children
    pub decomposed : (k : ℕ) (r : Row N) → slice_get rows k ≡ Some r → suc k < r.end → (m : N.Method) × (r.label ≡ used m)
    pub first : (k : ℕ) (r : Row N) → slice_get rows k ≡ Some r → suc k < r.end → (s : Row N) × (slice_get rows (suc k) ≡ Some s) × (s.parent ≡ Some k) × (s.number ≡ 0)
    pub within : (k x : ℕ) (r up : Row N) → slice_get rows k ≡ Some r → r.parent ≡ Some x → slice_get rows x ≡ Some up → r.end ≤ up.end
    pub next : (k x : ℕ) (r up : Row N) → slice_get rows k ≡ Some r → r.parent ≡ Some x → slice_get rows x ≡ Some up → r.end < up.end
        → (s : Row N) × (slice_get rows r.end ≡ Some s) × (s.parent ≡ Some x) × (s.number ≡ suc r.number)
