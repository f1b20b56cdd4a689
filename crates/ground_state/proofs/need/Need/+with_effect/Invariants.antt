use Rattle.std.proofs.Common.{take}
use Rattle.ground_state.specs.Needs.{IsWithin}
use Rattle.ground_state.proofs.EffectSizes.{size}
use Rattle.ground_state.proofs.NeedLaws.{IsEnoughForEachEffect}
use Rattle.ground_state.proofs.need.Need.+with_effect.Given as goal

abbrev pub decreases-with_effect : goal.decreases-with_effect
decreases-with_effect l = size l.eff.now

-- enough for the effects so far
abbrev pub invariant-loop-part : goal.invariant-loop-part
invariant-loop-part l = IsWithin l.fn.self l.need × IsEnoughForEachEffect l.inside (take l.part-index l.part-items) l.need
