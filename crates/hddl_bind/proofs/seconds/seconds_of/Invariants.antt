use Rattle.std.proofs.Common.{◌≡◌, ◌++◌, map, take}
use Rattle.name_binding.specs.Spots.{noted}
use Rattle.hddl_bind.specs.Seconds.{seconds}
use Rattle.hddl_bind.proofs.seconds.seconds_of.Given as goal

abbrev pub invariant-loop-item : goal.invariant-loop-item
invariant-loop-item g l = record {
  declared : l.known ≡ l.initial.known ++ map g.T.Declares.number (take l.item-index l.items);
  faults : l.faults.least ≡ noted l.initial.faults.least (seconds g.T.Declares.number g.T.Declares.offset l.initial.known (take l.item-index l.items));
}
