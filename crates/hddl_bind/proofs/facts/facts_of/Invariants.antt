use Rattle.std.proofs.Common.{◌≡◌, take}
use Rattle.name_binding.specs.Spots.{noted}
use Rattle.hddl_bind.specs.Facts.{facts_bound, facts_faults}
use Rattle.hddl_bind.proofs.facts.facts_of.Given as goal

abbrev pub invariant-loop-i : goal.invariant-loop-i
invariant-loop-i l = record {
  bound : l.bound ≡ facts_bound l.known (take l.i l.facts);
  faults : l.faults.least ≡ noted l.fn.faults.least (facts_faults l.known (take l.i l.facts));
}
