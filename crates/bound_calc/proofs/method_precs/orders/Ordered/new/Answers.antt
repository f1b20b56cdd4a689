use Rattle.std.proofs.lemmas.Result.{IfOk-weaker}
use Rattle.bound_calc.specs.method_precs.Ordered.{IsOrdered, IsOrderedBy}
use Rattle.bound_calc.proofs.method_precs.OrderParts.{ordered_by}
use Rattle.bound_calc.proofs.method_precs.orders.Ordered.new.Goals as goal

pub returns-in-Ok : goal.returns-in-Ok
returns-in-Ok c =
    let n = c.args.count in
    let pairs = c.args.pairs.now in
    let order = c.in-Ok.order in
    record { ordered = IfOk-weaker c.of-ordered.result (IsOrderedBy order n) (IsOrdered n pairs) (ordered_by n pairs order c.in-Ok.ensures.order) c.of-ordered.ensures.ordered }
