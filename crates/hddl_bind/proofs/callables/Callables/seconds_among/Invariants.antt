use Rattle.std.proofs.Common.{◌≡◌, take}
use Rattle.std.specs.List.{flat_map}
use Rattle.name_binding.specs.Spots.{noted}
use Rattle.hddl_bind.specs.Callables.{second_in}
use Rattle.hddl_bind.proofs.callables.Callables.seconds_among.Given as goal

abbrev pub invariant-loop-callable : goal.invariant-loop-callable
invariant-loop-callable l = l.faults.least ≡ noted l.initial.faults.least (flat_map (second_in l.self) (take l.callable-index l.callables))
