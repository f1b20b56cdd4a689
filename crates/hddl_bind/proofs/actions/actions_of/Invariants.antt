use Rattle.std.proofs.Common.{◌≡◌, take}
use Rattle.name_binding.specs.Spots.{noted}
use Rattle.hddl_bind.specs.Actions.{actions_bound, actions_faults}
use Rattle.hddl_bind.proofs.actions.actions_of.Given as goal

abbrev pub invariant-loop-action : goal.invariant-loop-action
invariant-loop-action l = record {
  bound : l.bound ≡ actions_bound l.known (take l.action-index l.actions);
  faults : l.faults.least ≡ noted l.fn.faults.least (actions_faults l.known (take l.action-index l.actions));
}
