-- Decomposition trees, also unfinished ones, whose open leaves wait to be processed.
-- Source: Geier and Bercher, "On the decidability of HTN planning with task insertion", IJCAI 2011, decomposition trees.
use Rattle.std.specs.Prelude.{ℕ, zero, suc, ◌≡◌, List, [], ◌∷◌, Option, Some, None, option_map, ◌⊎◌}
use Rattle.std.specs.Option.{option_and_then}
use Rattle.plan_model.specs.task_networks.Net.{Net}

mutual
  pub data Tree (N : Net) : Type 0 where
    open_leaf : N.Work → Tree N
    done : N.Work → Tree N
    split : N.Method → Trees N → Tree N

  pub data Trees (N : Net) : Type 0 where
    none : Trees N
    more : Tree N → Trees N → Trees N

-- what stands at a node, without what is below it: an open leaf, a finished action or check, a decomposed task
pub data Label (N : Net) : Type 0 where
  waits : N.Work → Label N
  ran : N.Work → Label N
  used : N.Method → Label N

-- The way from the root to a node, the innermost step first: i ∷ p is child i of p.
-- A tree of t, whose children are x and y, with x before y; those of x are p and q, in any order. Beside each node stands its address:
--             t []
--            /    \
--       x [0]      y [1]
--       /   \
--  p [0,0]   q [1,0]
abbrev pub Address : Type 0
Address = List ℕ

-- p is u or above it
abbrev pub IsAbove : Address → Address → Type 0
IsAbove p [] = p ≡ []
IsAbove p (k ∷ u) = (p ≡ k ∷ u) ⊎ IsAbove p u

module _ (N : Net) where
  abbrev pub work_of : Tree N → N.Work
  work_of (open_leaf w) = w
  work_of (done w) = w
  work_of (split m ts) = N.head m

  abbrev pub works_of : Trees N → List N.Work
  works_of none = []
  works_of (more t ts) = work_of t ∷ works_of ts

  abbrev mutual
    -- grown by ground methods, whose children the subtrees are, with actions and checks as finished leaves
    pub IsGrown : Tree N → Type 0
    IsGrown (open_leaf w) = Unit {0}
    IsGrown (done w) = N.IsSimple w
    IsGrown (split m ts) = N.IsGround m × (works_of ts ≡ N.works m) × AreGrown ts

    pub AreGrown : Trees N → Type 0
    AreGrown none = Unit {0}
    AreGrown (more t ts) = IsGrown t × AreGrown ts

  abbrev pub child_at : Trees N → ℕ → Option (Tree N)
  child_at none n = None
  child_at (more t ts) zero = Some t
  child_at (more t ts) (suc n) = child_at ts n

  abbrev pub children_of : Tree N → Trees N
  children_of (open_leaf w) = none
  children_of (done w) = none
  children_of (split m ts) = ts

  -- the subtree at an address
  abbrev pub at : Tree N → Address → Option (Tree N)
  at tree [] = Some tree
  at tree (i ∷ p) = option_and_then (λ t. child_at (children_of t) i) (at tree p)

  abbrev pub label : Tree N → Label N
  label (open_leaf w) = waits w
  label (done w) = ran w
  label (split m ts) = used m

  abbrev pub label_at : Tree N → Address → Option (Label N)
  label_at tree p = option_map label (at tree p)

  -- the label of a node that has been processed
  abbrev pub IsTaken : Label N → Type 0
  IsTaken (waits w) = ⊥
  IsTaken (ran w) = Unit {0}
  IsTaken (used m) = Unit {0}

  -- a node stands at p
  abbrev pub IsAddress : Tree N → Address → Type 0
  IsAddress tree p = (l : Label N) × (label_at tree p ≡ Some l)

  -- an open leaf stands at p
  abbrev pub IsOpen : Tree N → Address → Type 0
  IsOpen tree p = (w : N.Work) × (label_at tree p ≡ Some (waits w))

  -- a node that is no open leaf stands at p
  abbrev pub IsProcessed : Tree N → Address → Type 0
  IsProcessed tree p = (l : Label N) × (label_at tree p ≡ Some l) × IsTaken l
