use Rattle.std.proofs.Common.{◌≡◌, map, take}
use Rattle.std.specs.List.{flat_map}
use Rattle.name_binding.specs.Spots.{noted}
use Rattle.hddl_bind.specs.Networks.{constraint_bound, constraint_faults}
use Rattle.hddl_bind.proofs.networks.constraints_of.Given as goal

abbrev pub invariant-loop-constraint : goal.invariant-loop-constraint
invariant-loop-constraint l = record {
  bound : l.constraints ≡ map (constraint_bound l.objects l.scope) (take l.constraint-index l.written);
  faults : l.faults.least ≡ noted l.initial.faults.least (flat_map (constraint_faults l.objects l.scope) (take l.constraint-index l.written));
}
