use Rattle.std.proofs.Common.{arith}
use Rattle.gd_reader.proofs.Adding.{bare_name}
use Rattle.hddl_reader.proofs.networks.declared_of.Goals as goal

pub returns-in_err-name-in-Name-clause-adds : goal.returns-in_err-name-in-Name-clause-adds
returns-in_err-name-in-Name-clause-adds c = grind (arith, bare_name)

pub returns-in_ok-name-in-Name-clause-adds : goal.returns-in_ok-name-in-Name-clause-adds
returns-in_ok-name-in-Name-clause-adds c = grind (arith, bare_name)
