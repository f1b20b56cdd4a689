use Rattle.std.proofs.Common.{◌≡◌, take}
use Rattle.gd_reader.specs.TypedAsBefore.{types_before}
use Rattle.name_binding.specs.Spots.{noted}
use Rattle.name_binding.specs.Noted.{IsKindNoted}
use Rattle.name_binding.specs.Typed.{params_bound, params_faults}
use Rattle.name_binding.proofs.typed.params_of.Given as goal

abbrev pub invariant-loop-i : goal.invariant-loop-i
invariant-loop-i l = record {
  bound : l.bound ≡ params_bound l.table (take l.i l.params);
  faults : l.faults.least ≡ noted l.fn.faults.least (params_faults l.table (take l.i l.params));
  known : IsKindNoted l.table (types_before l.params l.i) l.ty l.faults.least;
}
