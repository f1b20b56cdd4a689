use Rattle.gd_reader.proofs.Keeping.{keeps_then}
use Rattle.hddl_reader.proofs.networks.RawPairItem.headed_of.Goals as goal

pub returns-in_ok-first-clause-keeps : goal.returns-in_ok-first-clause-keeps
returns-in_ok-first-clause-keeps c = keeps_then c.args.names.now c.name_due.new.names c.then_due.new.names c.in_ok-first.ensures.keeps c.then_due.ensures.keeps
