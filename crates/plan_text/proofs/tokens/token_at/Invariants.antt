use Rattle.std.proofs.Common.{◌≤◌, ◌-◌, length}
use Rattle.plan_text.proofs.Scanned.{GoesOn}
use Rattle.plan_text.proofs.tokens.token_at.Given as goal

abbrev pub decreases-loop-at : goal.decreases-loop-at
decreases-loop-at l = length l.text - l.at

abbrev pub invariant-loop-at : goal.invariant-loop-at
invariant-loop-at l = record { later : l.from ≤ l.at; within : l.at ≤ length l.text; goes : GoesOn l.text l.from l.at }
