use Rattle.std.proofs.Common.{◌≡◌, ◌++◌, take}
use Rattle.hddl_bind.proofs.bound_problem.add_objects.Given as goal

abbrev pub invariant-loop-object : goal.invariant-loop-object
invariant-loop-object l = l.into ≡ l.fn.into ++ take l.object-index l.objects
