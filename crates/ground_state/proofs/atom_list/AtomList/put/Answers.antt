use Rattle.std.proofs.Common.{arith}
use Rattle.std.proofs.lemmas.Grind.{common_steps}
use Rattle.ground_state.proofs.atom_list.AtomList.put.Goals as goal

pub returns-then-self-len-clause-put : goal.returns-then-self-len-clause-put
returns-then-self-len-clause-put c = grind (arith, common_steps)

pub returns-clause-put : goal.returns-clause-put
returns-clause-put c = grind (arith, common_steps)
