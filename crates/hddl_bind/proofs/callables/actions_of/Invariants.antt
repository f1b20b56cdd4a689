use Rattle.std.proofs.Common.{◌≡◌, take}
use Rattle.plan_model.specs.declared.networks.Head.TheVariants.{Action}
use Rattle.hddl_bind.specs.Callables.{callables_from, heads}
use Rattle.hddl_bind.proofs.callables.actions_of.Given as goal

abbrev pub invariant-loop-k : goal.invariant-loop-k
invariant-loop-k l = l.made ≡ callables_from Action 0 (heads (take l.k l.actions))
