use Rattle.std.proofs.Common.{arith}
use Rattle.std.proofs.lemmas.Grind.{common_steps}
use Rattle.plan_text.proofs.coming.step_from.Goals as goal

pub loop-word-preserved : goal.loop-word-preserved
loop-word-preserved c = grind (arith, common_steps)

pub returns-in-Close : goal.returns-in-Close
returns-in-Close c = grind (arith, common_steps)

pub returns-in-End-2 : goal.returns-in-End-2
returns-in-End-2 c = grind (arith, common_steps)
