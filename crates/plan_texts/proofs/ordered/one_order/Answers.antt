use Rattle.plan_texts.proofs.OneOrder.{one-order}
use Rattle.plan_texts.proofs.ordered.one_order.Goals as goal

pub returns : goal.returns
returns c =
    let e = one-order c.args.one.now c.args.other.now c.args.domain.now c.args.problem.now c.requires.first c.requires.second in
    record { types = e.0; pairs = e.1; unions = e.2 }
