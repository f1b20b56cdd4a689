use Rattle.plan_proof.proofs.one.OneText.{texts-same}
use Rattle.plan_proof.proofs.print_laws.one_pair_of_texts.Goals as goal

pub returns : goal.returns
returns c = texts-same c.args.domain.now c.args.problem.now c.args.checks.now c.args.slots c.args.style.now
