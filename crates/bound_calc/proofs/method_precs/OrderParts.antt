-- What an order answers is what a compiled method takes from it.
use Rattle.std.proofs.Common.{ℕ, ◌≡◌, List, subst, sym}
use Rattle.plan_model.specs.declared.networks.Pair.{Pair}
use Rattle.plan_model.specs.task_networks.Order.{IsLine}
use Rattle.plan_model.specs.Pairs.{Pairs}
use Rattle.plan_model.specs.net_order.Answers.{Answers}
use Rattle.plan_model.specs.net_order.Meaning.{IsOrderOf}
use Rattle.plan_model.specs.plan_meaning.Compilation.{last_of}
use Rattle.bound_calc.specs.declared.method_precs.orders.Ordered.{Ordered}
use Rattle.bound_calc.specs.method_precs.Ordered.{IsOrdered, IsOrderedBy}

pub ordered_by : (count : ℕ) (pairs : List Pair) (order : Answers) → IsOrderOf count pairs order → (ordered : Ordered) → IsOrderedBy order count ordered → IsOrdered count pairs ordered
ordered_by count pairs order is ordered by = record {
  line = subst (IsLine (Pairs pairs) count) (sym by.line) is.line;
  heir = subst (λ (line : List ℕ). ordered.heir ≡ last_of line) (sym by.line) by.heir;
  copiers = λ i. (
    λ c. (let h = (by.copiers.each i).0 c in ((is.maximal i h.0).0 h.1.0, h.1.1)),
    λ m. (by.copiers.each i).1 (m.0.0, ((is.maximal i m.0.0).1 m.0, m.1)),
  );
  copiers_in_order = by.copiers.in_order;
}
