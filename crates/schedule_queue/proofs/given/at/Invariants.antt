use Rattle.std.proofs.Common.{◌≡◌, map, take, slice_index}
use Rattle.schedule_queue.proofs.given.at.Given as goal

abbrev pub invariant-loop-number : goal.invariant-loop-number
invariant-loop-number l = l.found.items ≡ map (λ number. slice_index l.addresses number) (take l.number-index l.numbers)
