use Rattle.std.proofs.Common.{◌≡◌, map, take}
use Rattle.plan_text.proofs.step.Step.copy.Given as goal

abbrev pub invariant-loop-arg : goal.invariant-loop-arg
invariant-loop-arg l = l.args ≡ map (λ arg. arg.now) (take l.arg-index l.arg-items)
