use Rattle.std.proofs.Common.{◌≡◌, take}
use Rattle.name_binding.specs.Spots.{noted}
use Rattle.name_binding.specs.Kinds.{members_written, kind_faults}
use Rattle.name_binding.proofs.table.TypeTable.members_of.Given as goal

abbrev pub invariant-loop-written : goal.invariant-loop-written
invariant-loop-written l = record {
  members : l.members ≡ members_written l.self (take l.written-index l.types);
  faults : l.faults.least ≡ noted l.fn.faults.least (kind_faults l.self (take l.written-index l.types));
}
