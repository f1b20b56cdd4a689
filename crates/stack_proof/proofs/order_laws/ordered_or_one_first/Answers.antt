use Rattle.stack_proof.proofs.texts.Unordered as Unordered
use Rattle.stack_proof.proofs.order_laws.ordered_or_one_first.Goals as goal

pub returns : goal.returns
returns c = Unordered.ordered_or_one_first c.args.compiled.now
