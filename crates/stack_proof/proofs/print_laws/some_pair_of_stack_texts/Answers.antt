use Rattle.stack_proof.proofs.texts.Texts.{some_pair}
use Rattle.stack_proof.proofs.print_laws.some_pair_of_stack_texts.Goals as goal

pub returns : goal.returns
returns c = some_pair c.args.domain.now c.args.problem.now c.args.read.now c.args.checks.now c.args.compiled.now c.args.cells c.requires.spelled c.requires.sound c.requires.compiled c.requires.total
