-- What a comment is, by the bytes of its text: from a semicolon to the end of the line.
-- Source: appendix A (grammar) of Fox and Long, "PDDL2.1", JAIR 20, 2003, level 1: comments from a semicolon to the line's end.
use Rattle.std.specs.Prelude.{ℕ, ◌<◌, ◌≤◌, ◌≡◌, List, Some, slice_get}
use Rattle.text_forms.specs.Bytes.{blank, class_of}
use Rattle.text_forms.specs.LongestRuns.{IsAt}

-- a semicolon stands before the place, and no line ends between
abbrev pub IsInComment : List ℕ → ℕ → Type 0
IsInComment text at = (s : ℕ) × (s < at) × (slice_get text s ≡ Some 59) × ((k : ℕ) → s ≤ k → k < at → slice_get text k ≡ Some 10 → ⊥)

-- a byte in a comment is blank, and each other byte is of its own class
abbrev pub IsClassed : List ℕ → ℕ → ℕ → Type 0
IsClassed text k b = (IsInComment text k → IsAt text k blank) × ((IsInComment text k → ⊥) → IsAt text k (class_of b))
