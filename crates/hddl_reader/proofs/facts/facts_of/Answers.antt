use Rattle.gd_reader.proofs.Keeping.{keeps_same}
use Rattle.hddl_reader.proofs.facts.facts_of.Goals as goal

pub returns-in_err-facts-clause-keeps : goal.returns-in_err-facts-clause-keeps
returns-in_err-facts-clause-keeps c = keeps_same c.args.names.now

pub returns-in_err-marks-clause-keeps : goal.returns-in_err-marks-clause-keeps
returns-in_err-marks-clause-keeps c = keeps_same c.args.names.now
