use Rattle.std.proofs.Common.{◌≡◌, ◌++◌, map, take}
use Rattle.slot_encoder.specs.Made as made
use Rattle.slot_encoder.proofs.splitting.push_pairs.Given as goal

abbrev pub invariant-loop-pair : goal.invariant-loop-pair
invariant-loop-pair l = l.into ≡ l.initial.into ++ map (made.added_pair l.frame l.slots) (take l.pair-index l.pairs)
