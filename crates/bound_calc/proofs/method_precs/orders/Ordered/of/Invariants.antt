use Rattle.plan_model.specs.net_order.Answers.{maximal}
use Rattle.plan_model.proofs.Numbers.{AreFound}
use Rattle.bound_calc.specs.method_precs.Ordered.{IsCopier}
use Rattle.bound_calc.proofs.method_precs.orders.Ordered.of.Given as goal

abbrev pub invariant-loop-child : goal.invariant-loop-child
invariant-loop-child l = AreFound (IsCopier (maximal l.order) l.heir) l.child l.copiers
