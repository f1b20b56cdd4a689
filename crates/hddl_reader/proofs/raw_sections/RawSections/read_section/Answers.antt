use Rattle.gd_reader.proofs.Keeping.{keeps_same}
use Rattle.hddl_reader.proofs.raw_sections.RawSections.read_section.Goals as goal

pub returns-in-Requirements-clause-keeps : goal.returns-in-Requirements-clause-keeps
returns-in-Requirements-clause-keeps c = keeps_same c.args.names.now

pub returns-in-Functions-clause-keeps : goal.returns-in-Functions-clause-keeps
returns-in-Functions-clause-keeps c = keeps_same c.args.names.now

pub returns-in-Domain-clause-keeps : goal.returns-in-Domain-clause-keeps
returns-in-Domain-clause-keeps c = keeps_same c.args.names.now

pub returns-in-Metric-clause-keeps : goal.returns-in-Metric-clause-keeps
returns-in-Metric-clause-keeps c = keeps_same c.args.names.now
