use Rattle.std.proofs.Common.{◌≡◌, map, take}
use Rattle.std.specs.List.{flat_map}
use Rattle.name_binding.specs.Spots.{noted}
use Rattle.hddl_bind.specs.Networks.{child_bound, child_faults}
use Rattle.hddl_bind.proofs.networks.children_of.Given as goal

abbrev pub invariant-loop-sub : goal.invariant-loop-sub
invariant-loop-sub l = record {
  bound : l.children ≡ map (child_bound l.callables l.objects l.scope) (take l.sub-index l.subs);
  faults : l.faults.least ≡ noted l.initial.faults.least (flat_map (child_faults l.callables l.objects l.scope) (take l.sub-index l.subs));
}
