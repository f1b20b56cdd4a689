use Rattle.std.specs.Prelude.{ℕ, ◌<◌, ◌≤◌, ◌+◌, ◌^◌, ◌-◌, ◌⊎◌, min}

-- a number up by one, where there is room for it: a count ends at 2 ^ 64 - 1
abbrev pub one_more : ℕ → ℕ
one_more count = min (count + 1) (2 ^ 64 - 1)

-- a count has risen from `old` to `new`; one that stands at its end counts as risen
abbrev pub HasRisen : ℕ → ℕ → Type 0
HasRisen old new = (old < new) ⊎ (2 ^ 64 - 1 ≤ old)

-- more of what is counted
pub record Rises (old new : ℕ) : Type 0 where
  pub never_falls : old ≤ new
  pub has_risen : HasRisen old new
