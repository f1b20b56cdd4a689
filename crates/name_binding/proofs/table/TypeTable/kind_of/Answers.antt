use Rattle.std.proofs.Common.{arith}
use Rattle.std.proofs.lemmas.Grind.{common_steps}
use Rattle.name_binding.proofs.table.TypeTable.kind_of.Goals as goal

pub returns-in-empty-clause-bound : goal.returns-in-empty-clause-bound
returns-in-empty-clause-bound c = grind (arith, common_steps)

pub returns-in-empty-clause-faults : goal.returns-in-empty-clause-faults
returns-in-empty-clause-faults c = grind (arith, common_steps)

pub returns-in-len1-clause-bound : goal.returns-in-len1-clause-bound
returns-in-len1-clause-bound c = grind (arith, common_steps)

pub returns-in-len1-clause-faults : goal.returns-in-len1-clause-faults
returns-in-len1-clause-faults c = grind (arith, common_steps)
