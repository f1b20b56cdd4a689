-- Schedules: the processed nodes of a tree in an order in which they can be taken.
-- Source: HTN progression, as in Alford et al., "Bound to Plan", ICAPS 2016, said of whole trees.
use Rattle.std.specs.Prelude.{ℕ, ◌≡◌, ◌↔◌, List, [], ◌∷◌, ◌++◌, Some, Contains}
use Rattle.plan_model.specs.task_networks.Order.{Precedes}
use Rattle.plan_model.specs.task_networks.Net.{Net}
use Rattle.plan_model.specs.task_networks.Tree.{Tree, used, Address, IsAbove, label_at, IsAddress, IsProcessed}

-- the parent is taken, or there is none
abbrev pub IsBegun : List Address → Address → Type 0
IsBegun taken [] = Unit {0}
IsBegun taken (i ∷ p) = Contains taken p

module _ (N : Net) where
  -- u is in the subtree of a sibling that precedes v
  abbrev pub Blocks : Tree N → Address → Address → Type 0
  Blocks tree u [] = ⊥
  Blocks tree u (j ∷ q) = (m : N.Method) × (i : ℕ) × (label_at N tree q ≡ Some (used m)) × Precedes (N.Pair m) i j × IsAbove (i ∷ q) u

  -- v can be taken after these
  pub record IsDue (tree : Tree N) (taken : List Address) (v : Address) : Type 0 where
    pub fresh : Contains taken v → ⊥
    pub begun : IsBegun taken v
    pub clear : (u : Address) → IsAddress N tree u → Blocks tree u v → Contains taken u

  -- All processed nodes, each where it can be taken.
  -- A schedule of the tree that stands in Tree is t x q p y. The addresses that are pending after each step:
  --   at first   []
  --   t          [0]  [1]
  --   x          [0,0]  [1,0]  [1]      y waits for p and q, since x comes before y
  --   q          [0,0]  [1]
  --   p          [1]
  --   y          none
  pub record IsSchedule (tree : Tree N) (order : List Address) : Type 0 where
    pub covers : (p : Address) → Contains order p ↔ IsProcessed N tree p
    pub due : (taken rest : List Address) (p : Address) → order ≡ taken ++ p ∷ rest → IsDue tree taken p

  -- u is in the subtree of a sibling that precedes v, or precedes an ancestor of v
  abbrev pub MustPrecede : Tree N → Address → Address → Type 0
  MustPrecede tree u v = (c : Address) × IsAbove c v × Blocks tree u c
