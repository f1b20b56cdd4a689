use Rattle.std.proofs.Common.{◌≡◌, take}
use Rattle.name_binding.specs.Spots.{noted}
use Rattle.name_binding.specs.Typed.{objects_bound, params_faults}
use Rattle.name_binding.proofs.typed.objects_of.Given as goal

abbrev pub invariant-loop-object : goal.invariant-loop-object
invariant-loop-object l = record {
  bound : l.bound ≡ objects_bound l.table l.fn.constant (take l.object-index l.listed);
  faults : l.faults.least ≡ noted l.fn.faults.least (params_faults l.table (take l.object-index l.listed));
}
