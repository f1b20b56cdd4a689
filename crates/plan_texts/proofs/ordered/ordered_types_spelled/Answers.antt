use Rattle.plan_texts.proofs.InOrder.{types-in-order}
use Rattle.plan_texts.proofs.ordered.ordered_types_spelled.Goals as goal

pub returns : goal.returns
returns c = types-in-order
