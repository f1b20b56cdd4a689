-- What is asked for a node.
-- Source: this project's.
use Rattle.std.specs.Prelude.{ℕ, Option, MatchOption}
use Rattle.schedules.specs.latest.GreatestGap.{IsGreatest, HoldsNowhere}

-- the greatest of the gaps up to a bound in which it holds; none where it holds in none of them
abbrev pub IsGreatestOrNone : (ℕ → Type 0) → ℕ → Option ℕ → Type 0
IsGreatestOrNone At bound found = MatchOption found (HoldsNowhere At bound) (IsGreatest At bound)
