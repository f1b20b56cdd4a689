use Rattle.std.proofs.Common.{◌≡◌, take}
use Rattle.hddl_bind.specs.Methods.{methods_bound, AreMethodsNoted}
use Rattle.hddl_bind.proofs.methods.methods_of.Given as goal

abbrev pub invariant-loop-method : goal.invariant-loop-method
invariant-loop-method l = record {
  bound : l.bound ≡ methods_bound l.known l.callables (take l.method-index l.methods);
  faults : AreMethodsNoted l.known l.callables (take l.method-index l.methods) l.fn.faults.least l.faults.least;
}
