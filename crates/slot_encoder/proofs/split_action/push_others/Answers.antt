use Rattle.std.proofs.Common.{arith}
use Rattle.std.proofs.lemmas.Grind.{common_steps}
use Rattle.slot_encoder.proofs.split_action.push_others.Goals as goal

pub loop-formula-preserved : goal.loop-formula-preserved
loop-formula-preserved c = grind (arith, common_steps)

pub returns : goal.returns
returns c = grind (arith, common_steps)
