use Rattle.std.proofs.Common.{◌≡◌, take}
use Rattle.plan_model.specs.declared.networks.Head.TheVariants.{Task}
use Rattle.hddl_bind.specs.Callables.{callables_from}
use Rattle.hddl_bind.proofs.callables.tasks_of.Given as goal

abbrev pub invariant-loop-k : goal.invariant-loop-k
invariant-loop-k l = l.made ≡ callables_from Task 0 (take l.k l.tasks)
