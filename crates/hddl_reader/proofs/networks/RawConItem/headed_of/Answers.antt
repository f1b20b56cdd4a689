use Rattle.gd_reader.proofs.Keeping.{keeps_same}
use Rattle.hddl_reader.proofs.networks.RawConItem.headed_of.Goals as goal

pub returns-in_err-inside-clause-keeps : goal.returns-in_err-inside-clause-keeps
returns-in_err-inside-clause-keeps c = keeps_same c.args.names.now

pub returns-else-is_word-2-clause-keeps : goal.returns-else-is_word-2-clause-keeps
returns-else-is_word-2-clause-keeps c = keeps_same c.args.names.now

pub returns-in_err-at-clause-keeps : goal.returns-in_err-at-clause-keeps
returns-in_err-at-clause-keeps c = keeps_same c.args.names.now
