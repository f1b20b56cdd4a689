use Rattle.bound_calc.proofs.stratifier.NamedSteps.{AreStepsBelow}
use Rattle.bound_calc.proofs.stratifier.named.first_steps.Given as goal

abbrev pub invariant-loop-k : goal.invariant-loop-k
invariant-loop-k l = AreStepsBelow l.ends l.distances l.k l.steps.items
