use Rattle.bound_calc.proofs.stratifier.TaskGroups.{AreTargetsBelow}
use Rattle.bound_calc.proofs.stratifier.groups.targets_by_task.Given as goal

abbrev pub invariant-loop-e : goal.invariant-loop-e
invariant-loop-e l = AreTargetsBelow l.count l.ends l.e-index l.lists.items
