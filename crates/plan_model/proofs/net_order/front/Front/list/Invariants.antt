use Rattle.std.proofs.Common.{◌≡◌, Contains, drop}
use Rattle.plan_model.specs.net_order.Front.{IsFront}
use Rattle.plan_model.proofs.net_order.front.Front.list.Given as goal

abbrev pub invariant-loop-other : goal.invariant-loop-other
invariant-loop-other l = record {
  listed : l.self.listed ≡ l.initial.self.listed;
  front : IsFront l.before (Contains (drop l.other-index l.other-items)) l.self.listed l.self.ready l.self.waiting.items;
}
