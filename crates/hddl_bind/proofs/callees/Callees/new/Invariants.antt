use Rattle.std.proofs.Common.{◌≡◌, map, take}
use Rattle.hddl_bind.specs.Callables.{number}
use Rattle.hddl_bind.proofs.callees.Callees.new.Given as goal

abbrev pub invariant-loop-callable : goal.invariant-loop-callable
invariant-loop-callable l = l.places ≡ map number (take l.callable-index l.callable-items)
