use Rattle.std.proofs.Common.{arith}
use Rattle.std.proofs.lemmas.Grind.{common_steps}
use Rattle.slot_encoding.proofs.slot_declarations.types.unions.Goals as goal

pub loop-ty-preserved : goal.loop-ty-preserved
loop-ty-preserved c = grind (arith, common_steps)

pub loop-types-preserved : goal.loop-types-preserved
loop-types-preserved c = grind (arith, common_steps)
