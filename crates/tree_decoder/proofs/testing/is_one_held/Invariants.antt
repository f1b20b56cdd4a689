use Rattle.tree_decoder.proofs.NewSlots.{IsFreeTo}
use Rattle.tree_decoder.proofs.testing.is_one_held.Given as goal

abbrev pub invariant-loop-slot : goal.invariant-loop-slot
invariant-loop-slot l = IsFreeTo l.front l.new l.slot-index l.seen
