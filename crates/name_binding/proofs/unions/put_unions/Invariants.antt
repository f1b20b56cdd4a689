use Rattle.std.proofs.Common.{◌≡◌, ◌++◌, take}
use Rattle.gd_reader.specs.TypedAsBefore.{types_before}
use Rattle.name_binding.specs.Kinds.{members_written}
use Rattle.name_binding.specs.Unions.{params_unions}
use Rattle.name_binding.proofs.unions.put_unions.Given as goal

abbrev pub invariant-loop-i : goal.invariant-loop-i
invariant-loop-i l = record {
  put : l.into.items ≡ l.fn.into.items ++ params_unions l.table (take l.i l.params);
  known : l.members ≡ members_written l.table (types_before l.params l.i);
}
