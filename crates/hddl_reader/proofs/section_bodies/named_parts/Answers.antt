use Rattle.gd_reader.proofs.Keeping.{keeps_same, keeps_then}
use Rattle.hddl_reader.proofs.section_bodies.named_parts.Goals as goal

pub returns-in_err-at-clause-keeps : goal.returns-in_err-at-clause-keeps
returns-in_err-at-clause-keeps c = keeps_same c.args.names.now

pub returns-in_err-parts-clause-keeps : goal.returns-in_err-parts-clause-keeps
returns-in_err-parts-clause-keeps c = keeps_then c.args.names.now c.declared_of.new.names c.parts_of.new.names c.in_ok-name.ensures.keeps c.in_err-parts.ensures.keeps

pub returns-clause-keeps : goal.returns-clause-keeps
returns-clause-keeps c = keeps_then c.args.names.now c.declared_of.new.names c.parts_of.new.names c.in_ok-name.ensures.keeps c.in_ok-parts.ensures.keeps
