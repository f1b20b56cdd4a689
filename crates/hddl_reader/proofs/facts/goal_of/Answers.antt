use Rattle.gd_reader.proofs.Keeping.{keeps_same}
use Rattle.hddl_reader.proofs.facts.goal_of.Goals as goal

pub returns-in_err-inside-clause-keeps : goal.returns-in_err-inside-clause-keeps
returns-in_err-inside-clause-keeps c = keeps_same c.args.names.now
