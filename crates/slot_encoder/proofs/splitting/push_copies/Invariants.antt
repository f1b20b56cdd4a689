use Rattle.std.proofs.Common.{◌≡◌, ◌++◌, take}
use Rattle.std.specs.List.{flat_map}
use Rattle.slot_encoder.specs.Made as made
use Rattle.slot_encoder.proofs.splitting.push_copies.Given as goal

abbrev pub invariant-loop-child : goal.invariant-loop-child
invariant-loop-child l = l.into ≡ l.initial.into ++ flat_map (made.copied l.frame l.depth l.slots) (take l.child-index l.copiers)
