use Rattle.gd_reader.proofs.Keeping.{keeps_same}
use Rattle.hddl_reader.proofs.networks.name_due.Goals as goal

pub returns-in_err-at-clause-keeps : goal.returns-in_err-at-clause-keeps
returns-in_err-at-clause-keeps c = keeps_same c.args.names.now
