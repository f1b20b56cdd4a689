use Rattle.std.proofs.Common.{rules}
use Rattle.gd_reader.proofs.Keeping.{keeps_same}
use Rattle.hddl_reader.specs.Definitions.{definition_read}
use Rattle.hddl_reader.proofs.definitions.definition_of.Goals as goal

pub returns-in-End-clause-keeps : goal.returns-in-End-clause-keeps
returns-in-End-clause-keeps c = keeps_same c.args.names.now

pub returns-in-Close-clause-keeps : goal.returns-in-Close-clause-keeps
returns-in-Close-clause-keeps c = keeps_same c.args.names.now

pub returns-in-Word-clause-keeps : goal.returns-in-Word-clause-keeps
returns-in-Word-clause-keeps c = keeps_same c.args.names.now

pub returns-in-End-item_at-clause-gives : goal.returns-in-End-item_at-clause-gives
unfolding definition_read
returns-in-End-item_at-clause-gives c = search rules
