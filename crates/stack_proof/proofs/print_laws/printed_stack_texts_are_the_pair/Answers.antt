use Rattle.stack_proof.proofs.texts.Texts.{are_texts}
use Rattle.stack_proof.proofs.print_laws.printed_stack_texts_are_the_pair.Goals as goal

pub returns : goal.returns
returns c = are_texts c.args.domain.now c.args.problem.now c.args.read.now c.args.checks.now c.args.compiled.now c.args.cells c.args.value.now c.requires.spelled c.requires.printed c.requires.words
