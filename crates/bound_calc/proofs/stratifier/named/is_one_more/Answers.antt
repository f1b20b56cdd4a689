use Rattle.std.proofs.Common.{arith}
use Rattle.std.proofs.lemmas.Grind.{common_steps}
use Rattle.bound_calc.proofs.stratifier.named.is_one_more.Goals as goal

pub overflow_sub-n : goal.overflow_sub-n
overflow_sub-n c = grind (arith, common_steps)

pub returns-then-n-gt0 : goal.returns-then-n-gt0
returns-then-n-gt0 c = grind (arith, common_steps)

pub returns-else-n-gt0 : goal.returns-else-n-gt0
returns-else-n-gt0 c = grind (arith, common_steps)

pub returns-in-None : goal.returns-in-None
returns-in-None c = grind (arith, common_steps)
