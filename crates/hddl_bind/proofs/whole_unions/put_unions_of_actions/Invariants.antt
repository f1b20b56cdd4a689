use Rattle.std.proofs.Common.{◌≡◌, ◌++◌, take}
use Rattle.hddl_bind.specs.WholeUnions.{actions_unions}
use Rattle.hddl_bind.proofs.whole_unions.put_unions_of_actions.Given as goal

abbrev pub invariant-loop-action : goal.invariant-loop-action
invariant-loop-action l = l.into.items ≡ l.fn.into.items ++ actions_unions l.types (take l.action-index l.actions)
