use Rattle.std.proofs.Common.{arith}
use Rattle.std.proofs.lemmas.Grind.{common_steps}
use Rattle.hddl_bind.proofs.whole_unions.put_unions_of_method.Goals as goal

pub returns : goal.returns
returns c = grind (arith, common_steps)
