use Rattle.plan_proof.proofs.one.OneText.{some_texts}
use Rattle.plan_proof.proofs.print_laws.some_pair_of_texts.Goals as goal

pub returns : goal.returns
returns c = some_texts c.args.domain.now c.args.problem.now c.args.read.now c.args.checks.now c.args.slots c.args.style.now c.requires.spelled c.requires.sound c.requires.ordered
