use Rattle.std.proofs.Common.{◌≡◌, map, take}
use Rattle.tree_core.specs.declared.growth.Growth.{Growth}
use Rattle.tree_decoder.specs.Decoding.{slot_under}
use Rattle.tree_decoder.proofs.decoder.slots_of.Given as goal

abbrev pub invariant-loop-growth : goal.invariant-loop-growth
invariant-loop-growth l = l.slots ≡ map (λ (g : Growth). slot_under l.front g.parent g.child) (take l.growth-index l.front.growths)
