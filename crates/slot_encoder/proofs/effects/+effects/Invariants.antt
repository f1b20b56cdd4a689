use Rattle.std.proofs.Common.{◌≡◌, map, take}
use Rattle.slot_encoder.specs.Made as made
use Rattle.slot_encoder.proofs.effects.+effects.Given as goal

abbrev pub invariant-listed-loop-part : goal.invariant-listed-loop-part
invariant-listed-loop-part l = l.moved ≡ map (made.effect l.frame l.front) (take l.part-index l.parts)
