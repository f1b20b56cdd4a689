use Rattle.std.proofs.Common.{◌≡◌, take}
use Rattle.name_binding.specs.Spots.{noted}
use Rattle.hddl_bind.specs.Schemas.{tasks_bound, heads_faults}
use Rattle.hddl_bind.proofs.heads.tasks_of.Given as goal

abbrev pub invariant-loop-head : goal.invariant-loop-head
invariant-loop-head l = record {
  bound : l.bound ≡ tasks_bound l.types (take l.head-index l.heads);
  faults : l.faults.least ≡ noted l.fn.faults.least (heads_faults l.types (take l.head-index l.heads));
}
