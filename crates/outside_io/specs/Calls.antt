-- A call of the outside, and what it was answered.
use Rattle.std.specs.Prelude.{ℕ, List, [], ◌∷◌, ◌++◌}

-- a name is its bytes
pub data Passed : Type 0 where
  -- a get of a name with a limit was answered these bytes
  got : List ℕ → ℕ → List ℕ → Passed
  -- a get of a name failed
  got_none : List ℕ → Passed
  -- a put of a name was handed these bytes, and said that it took them
  stored : List ℕ → List ℕ → Passed
  -- a put of a name was handed these bytes, and failed
  unsure : List ℕ → List ℕ → Passed
  -- a write took these bytes
  wrote : List ℕ → Passed

-- all bytes that writes took
abbrev pub written_by : List Passed → List ℕ
written_by [] = []
written_by (wrote bytes ∷ calls) = bytes ++ written_by calls
written_by (_ ∷ calls) = written_by calls
