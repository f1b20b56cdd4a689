use Rattle.std.proofs.Common.{◌+◌, take}
use Rattle.ground_state.specs.Frames.{frame}
use Rattle.ground_state.specs.Passes.{ArePlain}
use Rattle.ground_state.proofs.EffectSizes.{size, sizes}
use Rattle.ground_state.proofs.plain.+is_plain.Given as goal

abbrev pub decreases-is_plain : goal.decreases-is_plain
decreases-is_plain l = size l.eff.now

abbrev pub decreases-are_plain : goal.decreases-are_plain
decreases-are_plain l = 1 + sizes l.parts.now

-- the effects so far are plain
abbrev pub invariant-are_plain-loop-part : goal.invariant-are_plain-loop-part
invariant-are_plain-loop-part l = ArePlain (frame l.env) (take l.part-index l.parts)
