-- Numbers of slots that are past a limit.
use Rattle.std.specs.Prelude.{ℕ, ◌≡◌, ◌<◌, ◌≤◌, ◌^◌}
use Rattle.htn_cli.specs.declared.refusal.Limit.TheVariants as limit
use Rattle.htn_cli.specs.declared.refusal.Refusal.{Refusal}
use Rattle.htn_cli.specs.declared.refusal.Refusal.TheVariants.{Limit}

-- n slots are refused: they are more than the most that are printed, or more than any number that is counted
abbrev pub RefusesSlots : (most n : ℕ) → Refusal → Type 0
RefusesSlots most n (Limit limit.Bound) = 2 ^ 128 ≤ n
RefusesSlots most n (Limit (limit.Slots slots)) = (slots ≡ n) × (most < n) × (n < 2 ^ 128)
RefusesSlots most n _ = ⊥
