use Rattle.plan_proof.proofs.one.OneText.{are_texts}
use Rattle.plan_proof.proofs.print_laws.printed_texts_are_the_pair.Goals as goal

pub returns : goal.returns
returns c = are_texts c.args.domain.now c.args.problem.now c.args.read.now c.args.checks.now c.args.compiled.now c.args.slots c.args.style.now c.args.value.now c.requires.spelled c.requires.printed c.requires.words
