use Rattle.stack_proof.proofs.texts.Texts.{one_pair}
use Rattle.stack_proof.proofs.print_laws.one_pair_of_stack_texts.Goals as goal

pub returns : goal.returns
returns c = one_pair c.args.domain.now c.args.problem.now c.args.checks.now c.args.cells
