-- When an open leaf waits: told by the pairs of its parent's method and by which subtrees of its siblings are whole; and numbers that count
-- this.
-- Source: this project's. A subtree is whole where no open leaf is in it.
use Rattle.std.specs.Prelude.{ℕ, ◌≡◌, ◌≢◌, ◌↔◌, List, [], ◌∷◌, length, Contains, slice_get, Some, option_map}
use Rattle.plan_model.specs.task_networks.Net.{Net}
use Rattle.plan_model.specs.task_networks.Tree.{Tree, Label, waits, ran, used, Address, IsAbove, label_at, IsTaken, IsOpen}
use Rattle.htn_base.specs.Different.{AreDifferent}

-- n numbers are so
pub record AreMany (P : ℕ → Type 0) (n : ℕ) : Type 0 where
  pub numbers : List ℕ
  pub different : AreDifferent numbers
  pub all : (i : ℕ) → Contains numbers i ↔ P i
  pub many : length numbers ≡ n

module _ (N : Net) where
  -- the works of the children of what is processed
  abbrev pub works_below : Label N → List N.Work
  works_below (waits w) = []
  works_below (ran w) = []
  works_below (used m) = N.works m

  -- tree' is tree with the open leaf at p processed, as l, whose children are open leaves
  pub record Grows (tree tree' : Tree N) (p : Address) (l : Label N) : Type 0 where
    pub taken : IsTaken N l
    pub was : IsOpen N tree p
    pub now : label_at N tree' p ≡ Some l
    pub children : (i : ℕ) → label_at N tree' (i ∷ p) ≡ option_map waits (slice_get (works_below l) i)
    pub others : (q : Address) → q ≢ p → ((i : ℕ) → q ≢ i ∷ p) → label_at N tree' q ≡ label_at N tree q

  module _ (tree : Tree N) where
    -- an open leaf is in the subtree at p: it isn't whole
    abbrev pub HasOpen : Address → Type 0
    HasOpen p = (u : Address) × IsAbove p u × IsOpen N tree u

    -- child i of the node at q must come right before child j, and its subtree isn't whole
    abbrev pub IsOpenBefore : Address → ℕ → ℕ → Type 0
    IsOpenBefore q j i = (m : N.Method) × (label_at N tree q ≡ Some (used m)) × N.Pair m i j × HasOpen (i ∷ q)

    abbrev pub WaitsDirectly : Address → Type 0
    WaitsDirectly [] = ⊥
    WaitsDirectly (j ∷ q) = (i : ℕ) × IsOpenBefore q j i

    -- what a decoder counts: at child j of q its direct predecessors that aren't whole
    abbrev pub BlockedBy : Address → ℕ → ℕ → Type 0
    BlockedBy q j n = AreMany (IsOpenBefore q j) n

    -- and at q the children that aren't whole
    abbrev pub OpenChildren : Address → ℕ → Type 0
    OpenChildren q n = AreMany (λ i. HasOpen (i ∷ q)) n

  -- the subtree at q becomes whole
  abbrev pub BecomesWhole : Tree N → Tree N → Address → Type 0
  BecomesWhole tree tree' q = HasOpen tree q × (HasOpen tree' q → ⊥)
