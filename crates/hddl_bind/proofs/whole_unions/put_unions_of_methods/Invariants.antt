use Rattle.std.proofs.Common.{◌≡◌, ◌++◌, take}
use Rattle.hddl_bind.specs.WholeUnions.{methods_unions}
use Rattle.hddl_bind.proofs.whole_unions.put_unions_of_methods.Given as goal

abbrev pub invariant-loop-method : goal.invariant-loop-method
invariant-loop-method l = l.into.items ≡ l.fn.into.items ++ methods_unions l.types (take l.method-index l.methods)
