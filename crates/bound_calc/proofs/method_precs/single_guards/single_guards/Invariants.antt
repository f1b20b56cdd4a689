use Rattle.std.proofs.Common.{◌≡◌, take}
use Rattle.std.specs.BTreeSet.{contains}
use Rattle.plan_model.specs.declared.networks.Guard.{Guard}
use Rattle.plan_model.specs.plan_meaning.Compilation.{once, same_guard}
use Rattle.bound_calc.specs.method_precs.Keys.{key}
use Rattle.plan_model.proofs.plan_meaning.Once.{has}
use Rattle.bound_calc.proofs.method_precs.SameKeys.{key_cmp}
use Rattle.bound_calc.proofs.method_precs.single_guards.single_guards.Given as goal

abbrev pub invariant-loop-guard : goal.invariant-loop-guard
invariant-loop-guard l = record {
  seen : (g : Guard) → contains key_cmp l.seen (key g) ≡ has same_guard g (take l.guard-index l.guards);
  single : l.single ≡ once same_guard (take l.guard-index l.guards);
}
