use Rattle.stack_proof.proofs.texts.SamePrinted.{stack_printed_too, ordered_here}
use Rattle.stack_proof.proofs.value_laws.printed_stack_for_each.Goals as goal

pub returns-clause-printed : goal.returns-clause-printed
returns-clause-printed c = stack_printed_too c.args.domain.now c.args.problem.now c.args.read.now c.args.other.now c.args.checks.now c.args.compiled.now c.args.other_compiled.now c.args.cells c.args.value.now c.requires.spelled c.requires.printed c.requires.other_spelled c.requires.other_compiled

pub returns-clause-ordered : goal.returns-clause-ordered
returns-clause-ordered c = ordered_here c.args.domain.now c.args.problem.now c.args.read.now c.args.other.now c.args.checks.now c.args.compiled.now c.args.other_compiled.now c.args.cells c.args.value.now c.requires.spelled c.requires.printed c.requires.other_spelled c.requires.other_compiled c.requires.ordered
