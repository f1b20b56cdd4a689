use Rattle.gd_reader.proofs.Keeping.{keeps_same}
use Rattle.hddl_reader.proofs.parts.RawParts.read_part.Goals as goal

pub returns-in_err-end_due-in-NoPrecondition-clause-keeps : goal.returns-in_err-end_due-in-NoPrecondition-clause-keeps
returns-in_err-end_due-in-NoPrecondition-clause-keeps c = keeps_same c.args.names.now

pub returns-in_ok-end_due-in-NoPrecondition-clause-keeps : goal.returns-in_ok-end_due-in-NoPrecondition-clause-keeps
returns-in_ok-end_due-in-NoPrecondition-clause-keeps c = keeps_same c.args.names.now

pub returns-in_err-end_due-in-NoEffect-clause-keeps : goal.returns-in_err-end_due-in-NoEffect-clause-keeps
returns-in_err-end_due-in-NoEffect-clause-keeps c = keeps_same c.args.names.now

pub returns-in_ok-end_due-in-NoEffect-clause-keeps : goal.returns-in_ok-end_due-in-NoEffect-clause-keeps
returns-in_ok-end_due-in-NoEffect-clause-keeps c = keeps_same c.args.names.now
