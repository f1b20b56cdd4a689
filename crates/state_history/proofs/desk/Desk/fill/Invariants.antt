use Rattle.std.proofs.Common.{◌≡◌, ◌∷◌, take}
use Rattle.plan_model.specs.plan_meaning.Truth.{values_of}
use Rattle.state_history.specs.Desks.{HasValues}
use Rattle.state_history.proofs.desk.Desk.fill.Given as goal

abbrev pub invariant-loop-term : goal.invariant-loop-term
invariant-loop-term l = record {
  key : l.self.key.items ≡ l.atom.predicate ∷ values_of l.fn.self.values.items (take l.term-index l.term-items);
  kept : HasValues l.fn.self.values.items l.fn.self l.self;
}
