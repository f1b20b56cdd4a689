use Rattle.std.proofs.Common.{◌≡◌}
use Rattle.slot_speller.specs.Children.{child_in}
use Rattle.slot_speller.specs.Slots.{Plants}
use Rattle.slot_speller.proofs.slots.Slots.plant.Given as goal

abbrev pub invariant-loop-number : goal.invariant-loop-number
invariant-loop-number l = record {
  child : l.child ≡ child_in l.tree l.node l.number;
  planted : Plants l.tree l.node l.slot l.heir l.number l.initial.self l.self;
}
