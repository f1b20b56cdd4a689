use Rattle.std.proofs.Common.{arith}
use Rattle.std.proofs.lemmas.Grind.{common_steps}
use Rattle.bound_calc.proofs.method_precs.plans.front_of.Goals as goal

pub returns : goal.returns
returns c = grind (arith, common_steps)
