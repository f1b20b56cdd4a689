use Rattle.slot_speller.proofs.Settings.{KeepsFirst}
use Rattle.slot_speller.proofs.slots.Slots.of.Given as goal

abbrev pub invariant-loop-node : goal.invariant-loop-node
invariant-loop-node l = KeepsFirst l.c l.run l.node-index l.slots
