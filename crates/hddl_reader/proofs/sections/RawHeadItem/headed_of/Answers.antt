use Rattle.gd_reader.proofs.Keeping.{keeps_then}
use Rattle.hddl_reader.proofs.sections.RawHeadItem.headed_of.Goals as goal

pub returns-in_err-params-clause-keeps : goal.returns-in_err-params-clause-keeps
returns-in_err-params-clause-keeps c = keeps_then c.args.names.now c.declared_of.new.names c.params_of.new.names c.in_ok-name.ensures.keeps c.in_err-params.ensures.keeps

pub returns-clause-keeps : goal.returns-clause-keeps
returns-clause-keeps c = keeps_then c.args.names.now c.declared_of.new.names c.params_of.new.names c.in_ok-name.ensures.keeps c.in_ok-params.ensures.keeps
