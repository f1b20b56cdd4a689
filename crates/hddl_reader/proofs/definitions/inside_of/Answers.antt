use Rattle.gd_reader.proofs.Keeping.{keeps_same, keeps_then}
use Rattle.hddl_reader.proofs.definitions.inside_of.Goals as goal

pub returns-in_err-i-clause-keeps : goal.returns-in_err-i-clause-keeps
returns-in_err-i-clause-keeps c = keeps_same c.args.names.now

pub returns-in_err-inside-clause-keeps : goal.returns-in_err-inside-clause-keeps
returns-in_err-inside-clause-keeps c = keeps_same c.args.names.now

pub returns-in_err-i-2-clause-keeps : goal.returns-in_err-i-2-clause-keeps
returns-in_err-i-2-clause-keeps c = keeps_same c.args.names.now

pub returns-in_err-at-clause-keeps : goal.returns-in_err-at-clause-keeps
returns-in_err-at-clause-keeps c = keeps_same c.args.names.now

pub returns-in-Err-clause-keeps : goal.returns-in-Err-clause-keeps
returns-in-Err-clause-keeps c = keeps_then c.args.names.now c.declared_of.new.names c.read.new.names c.in_ok-name.ensures.keeps c.in-Err.ensures.keeps

pub returns-in-Ok-clause-keeps : goal.returns-in-Ok-clause-keeps
returns-in-Ok-clause-keeps c = keeps_then c.args.names.now c.declared_of.new.names c.read.new.names c.in_ok-name.ensures.keeps c.in-Ok.ensures.keeps
