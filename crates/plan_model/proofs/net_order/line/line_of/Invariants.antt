use Rattle.plan_model.specs.net_order.Front.{IsFront}
use Rattle.plan_model.proofs.net_order.Lines.{IsLineSoFar}
use Rattle.plan_model.proofs.net_order.line.line_of.Given as goal

abbrev pub invariant-loop : goal.invariant-loop
invariant-loop l = record {
  so_far : IsLineSoFar l.before l.front.listed l.line l.counter;
  front : IsFront l.before (λ i. ⊥) l.front.listed l.front.ready l.front.waiting.items;
}
