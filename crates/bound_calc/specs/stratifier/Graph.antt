-- A graph of numbered tasks: for each a row of the tasks that its edges lead to.
use Rattle.std.specs.Prelude.{ℕ, ◌≡◌, ◌<◌, ◌≤◌, ◌↔◌, List, [], ◌∷◌, ◌++◌, length, Contains, slice_index_or}
use Rattle.htn_base.specs.Different.{AreDifferent}

abbrev pub Leads : List (List ℕ) → ℕ → ℕ → Type 0
Leads rows u v = Contains (slice_index_or rows u []) v

-- edges lead from u to v, one after another
pub data Reaches (rows : List (List ℕ)) : ℕ → ℕ → Type 0 where
  itself : {u : ℕ} → Reaches rows u u
  onward : {u v w : ℕ} → Leads rows u v → Reaches rows v w → Reaches rows u w

-- all edges lead to tasks that have a row
abbrev pub AreWithin : List (List ℕ) → Type 0
AreWithin rows = (u v : ℕ) → Leads rows u v → v < length rows

-- the edges of the one graph are those of the other, reversed
pub record AreReversed (rows back : List (List ℕ)) : Type 0 where
  pub room : length back ≡ length rows
  pub each : (u v : ℕ) → Leads rows u v ↔ Leads back v u

-- an edge of the first part that leaves it, up to z, goes to a task that reaches z
abbrev pub ReachBack : List (List ℕ) → List ℕ → Type 0
ReachBack rows order = (before after : List ℕ) (z u w : ℕ) → order ≡ before ++ z ∷ after → Contains (before ++ z ∷ []) u → Leads rows u w → (Contains (before ++ z ∷ []) w → ⊥) → Reaches rows w z

-- each task once, in an order in which a depth-first walk leaves them
pub record IsFinishingOrder (rows : List (List ℕ)) (order : List ℕ) : Type 0 where
  pub whole : (t : ℕ) → t < length rows → Contains order t
  pub within : (t : ℕ) → Contains order t → t < length rows
  pub different : AreDifferent order
  pub back : ReachBack rows order

-- numbers of groups: no edge goes up, and two have one number exactly where each reaches the other
pub record NumberComponents (rows : List (List ℕ)) (numbers : List ℕ) : Type 0 where
  pub room : length numbers ≡ length rows
  pub small : (t : ℕ) → t < length rows → slice_index_or numbers t 0 < length rows
  pub not_up : (u v : ℕ) → u < length rows → Leads rows u v → slice_index_or numbers v 0 ≤ slice_index_or numbers u 0
  pub groups : (u v : ℕ) → u < length rows → v < length rows → (slice_index_or numbers u 0 ≡ slice_index_or numbers v 0) ↔ (Reaches rows u v × Reaches rows v u)
