-- The order of the children of a network, from pairs of them: the first of a pair comes before the second.
-- Source: Höller et al., "HDDL", AAAI 2020, ordering constraints of a task network: the written pairs generate the order.
-- Line, heir and cut are this project's. The children are numbered from 0.
use Rattle.std.specs.Prelude.{ℕ, ◌≡◌, ◌≢◌, ◌<◌, ◌≤◌, ◌⊎◌, List, [], ◌∷◌, ◌++◌, Contains, length, take, drop}

-- a chain of pairs leads from i to j
pub data Precedes (Pair : ℕ → ℕ → Type 0) (i : ℕ) : ℕ → Type 0 where
  direct : {j : ℕ} → Pair i j → Precedes Pair i j
  through : {j k : ℕ} → Precedes Pair i j → Pair j k → Precedes Pair i k

-- no child precedes itself
abbrev pub IsAcyclic : (ℕ → ℕ → Type 0) → Type 0
IsAcyclic Pair = (i : ℕ) → Precedes Pair i i → ⊥

-- all pairs are of children
abbrev pub ArePairsOf : (ℕ → ℕ → Type 0) → ℕ → Type 0
ArePairsOf Pair count = (i j : ℕ) → Pair i j → (i < count) × (j < count)

-- a child that isn't listed yet, whose predecessors are all listed
pub record IsReady (Pair : ℕ → ℕ → Type 0) (count : ℕ) (listed : List ℕ) (i : ℕ) : Type 0 where
  pub child : i < count
  pub unlisted : Contains listed i → ⊥
  pub preceded : (j : ℕ) → Precedes Pair j i → Contains listed j

-- the least number that is ready
pub record IsNext (Pair : ℕ → ℕ → Type 0) (count : ℕ) (listed : List ℕ) (i : ℕ) : Type 0 where
  pub ready : IsReady Pair count listed i
  pub least : (j : ℕ) → IsReady Pair count listed j → i ≤ j

-- the line has each child, and at each place the next
pub record IsLine (Pair : ℕ → ℕ → Type 0) (count : ℕ) (line : List ℕ) : Type 0 where
  pub whole : (i : ℕ) → i < count → Contains line i
  pub each : (listed rest : List ℕ) (i : ℕ) → line ≡ listed ++ i ∷ rest → IsNext Pair count listed i

-- the last child of the line
abbrev pub IsHeir : (ℕ → ℕ → Type 0) → ℕ → ℕ → Type 0
IsHeir Pair count i = (others : List ℕ) × IsLine Pair count (others ++ i ∷ [])

-- all other children precede it
abbrev pub IsLast : (ℕ → ℕ → Type 0) → ℕ → ℕ → Type 0
IsLast Pair count i = (i < count) × ((j : ℕ) → j < count → j ≢ i → Precedes Pair j i)

-- it precedes no child
abbrev pub IsMaximal : (ℕ → ℕ → Type 0) → ℕ → ℕ → Type 0
IsMaximal Pair count i = (i < count) × ((j : ℕ) → Precedes Pair i j → ⊥)

-- each of the first k of the line precedes each of the rest
abbrev pub IsCut : (ℕ → ℕ → Type 0) → List ℕ → ℕ → Type 0
IsCut Pair line k = (i j : ℕ) → Contains (take k line) i → Contains (drop k line) j → Precedes Pair i j

-- the order of a list of pairs, where `pair i j` is the pair of i and j
module _ {A : Type 0} (pair : ℕ → ℕ → A) where
  abbrev pub Among : List A → ℕ → ℕ → Type 0
  Among pairs i j = Contains pairs (pair i j)

  -- the pair of i and j makes a cycle with these pairs
  abbrev pub Closes : List A → ℕ → ℕ → Type 0
  Closes pairs i j = (i ≡ j) ⊎ Precedes (Among pairs) j i

  -- the pair at place k closes a cycle with those before it, which have none
  pub record IsFirstClosing (pairs : List A) (k : ℕ) : Type 0 where
    pub before : List A
    pub first : ℕ
    pub second : ℕ
    pub rest : List A
    pub parts : pairs ≡ before ++ pair first second ∷ rest
    pub place : length before ≡ k
    pub acyclic : IsAcyclic (Among before)
    pub closes : Closes before first second
