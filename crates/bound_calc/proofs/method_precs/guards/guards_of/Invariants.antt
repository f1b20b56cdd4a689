use Rattle.std.proofs.Common.{take}
use Rattle.plan_model.specs.plan_meaning.Compilation.{Keeps, IsGuard}
use Rattle.bound_calc.proofs.method_precs.guards.guards_of.Given as goal

abbrev pub invariant-loop-guard : goal.invariant-loop-guard
invariant-loop-guard l = Keeps (IsGuard l.problem l.method) (take l.guard-index l.guard-items) l.kept
