use Rattle.std.proofs.Common.{◌-◌, length}
use Rattle.plan_text.proofs.Counted.{IsCountedTo}
use Rattle.plan_text.proofs.coming.count.Given as goal

abbrev pub decreases-loop-words : goal.decreases-loop-words
decreases-loop-words l = length l.text - l.at

abbrev pub invariant-loop-words : goal.invariant-loop-words
invariant-loop-words l = IsCountedTo l.text l.at l.count
