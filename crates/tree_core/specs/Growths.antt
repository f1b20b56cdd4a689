-- Trees from growths: each names its parent by the parent's place in the list.
-- Source: this project's.
use Rattle.std.specs.Prelude.{ℕ, suc, ◌≡◌, ◌<◌, ◌≤◌, List, [], ◌∷◌, length, Option, Some, None, slice_get, Contains}
use Rattle.plan_model.specs.task_networks.Net.{Net}
use Rattle.plan_model.specs.task_networks.Tree.{Tree, Label, used, Address, label_at, IsAddress}
use Rattle.htn_base.specs.Different.{AreDifferent}

pub record Growth (N : Net) : Type 0 where
  pub parent : Option ℕ
  pub child : ℕ
  pub label : Label N

-- at place k, where a growth's parent must come before it, and the first has none
abbrev pub IsAstray : ℕ → Option ℕ → Type 0
IsAstray k None = 0 < k
IsAstray k (Some x) = k ≤ x

module _ (N : Net) where
  -- p is the growth's address, where earlier growths have theirs
  abbrev pub IsUnder : List Address → ℕ → Option ℕ → ℕ → Address → Type 0
  IsUnder order k None child p = p ≡ []
  IsUnder order k (Some x) child p = (x < k) × ((q : Address) × (slice_get order x ≡ Some q) × (p ≡ child ∷ q))

  -- each growth stands in the tree, under its parent at its child number, and these are their addresses in order
  pub record AreGrowths (growths : List (Growth N)) (tree : Tree N) (order : List Address) : Type 0 where
    pub many : length order ≡ length growths
    pub under : (k : ℕ) (g : Growth N) (p : Address) → slice_get growths k ≡ Some g → slice_get order k ≡ Some p → IsUnder order k g.parent g.child p
    pub labels : (k : ℕ) (g : Growth N) (p : Address) → slice_get growths k ≡ Some g → slice_get order k ≡ Some p → label_at N tree p ≡ Some g.label

  -- and the tree has nothing else, each once
  pub record IsTreeOf (growths : List (Growth N)) (tree : Tree N) (order : List Address) : Type 0 where
    pub growths_are : AreGrowths growths tree order
    pub all : (p : Address) → IsAddress N tree p → Contains order p
    pub different : AreDifferent order

  abbrev pub IsAt : List (Growth N) → ℕ → Growth N → Type 0
  IsAt growths k g = slice_get growths k ≡ Some g

  -- the growths are joined to one tree
  pub record AreJoined (growths : List (Growth N)) : Type 0 where
    pub some : (g : Growth N) × IsAt growths 0 g
    -- the first has no parent, and each later one has one before it, which is a decomposed task
    pub first : (g : Growth N) → IsAt growths 0 g → g.parent ≡ None
    pub later : (k : ℕ) (g : Growth N) → IsAt growths (suc k) g → (x : ℕ) × (g.parent ≡ Some x) × (x ≤ k)
    pub decomposed : (k x : ℕ) (g up : Growth N) → IsAt growths k g → g.parent ≡ Some x → IsAt growths x up → (m : N.Method) × (up.label ≡ used m)
    -- no child number stands twice under one parent, and none is left out
    pub once : (k l x : ℕ) (g h : Growth N) → IsAt growths k g → IsAt growths l h → g.parent ≡ Some x → h.parent ≡ Some x → g.child ≡ h.child → k ≡ l
    pub none_left_out : (k x i : ℕ) (g : Growth N) → IsAt growths k g → g.parent ≡ Some x → g.child ≡ suc i
        → (l : ℕ) × (h : Growth N) × IsAt growths l h × (h.parent ≡ Some x) × (h.child ≡ i)

  -- what is wrong at place k
  pub data IsDefect (growths : List (Growth N)) (k : ℕ) : Type 0 where
    -- there are no growths
    missing : growths ≡ [] → k ≡ 0 → IsDefect growths k
    -- it has no parent and isn't the first, or has one that doesn't come before it
    astray : (g : Growth N) → IsAt growths k g → IsAstray k g.parent → IsDefect growths k
    -- its parent is an action or a check
    under_leaf : (g up : Growth N) (x : ℕ) → IsAt growths k g → g.parent ≡ Some x → IsAt growths x up → ((m : N.Method) → up.label ≡ used m → ⊥) → IsDefect growths k
    -- an earlier growth has its parent and its child number
    repeated : (g before : Growth N) (l x : ℕ) → IsAt growths k g → IsAt growths l before → l < k → g.parent ≡ Some x → before.parent ≡ Some x → g.child ≡ before.child → IsDefect growths k
    -- a child number is given under it, and the number before that isn't
    left_out : (g : Growth N) (l i : ℕ) → IsAt growths l g → g.parent ≡ Some k → g.child ≡ suc i
        → ((j : ℕ) (h : Growth N) → IsAt growths j h → h.parent ≡ Some k → h.child ≡ i → ⊥) → IsDefect growths k

  -- the first place at which something is wrong
  abbrev pub IsUnjoined : List (Growth N) → ℕ → Type 0
  IsUnjoined growths k = IsDefect growths k × ((j : ℕ) → j < k → IsDefect growths j → ⊥)
