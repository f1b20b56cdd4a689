-- The made plan is sound, also that of no package.
use Rattle.std.proofs.Common.{ℕ, zero, suc, arith}
use Rattle.hplan_text.specs.Printable.{IsSoundHPlan}
use Rattle.made_transport.specs.Made.{made_plan}
use Rattle.made_transport.proofs.Sound.{made-sound}

pub made_is_sound : (k : ℕ) → IsSoundHPlan (made_plan k)
made_is_sound zero = record { own = tt; known = λ n h. absurd h; once = tt; reached = λ n h. absurd h }
made_is_sound (suc k) = made-sound (suc k) (omega arith)
