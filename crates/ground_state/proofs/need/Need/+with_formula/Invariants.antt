use Rattle.std.proofs.Common.{take}
use Rattle.ground_state.specs.Needs.{IsWithin}
use Rattle.ground_state.proofs.Sizes.{size}
use Rattle.ground_state.proofs.NeedLaws.{IsEnoughForEach}
use Rattle.ground_state.proofs.need.Need.+with_formula.Given as goal

abbrev pub decreases-with_formula : goal.decreases-with_formula
decreases-with_formula l = size l.f.now

-- enough for the formulas so far
abbrev pub invariant-loop-part : goal.invariant-loop-part
invariant-loop-part l = IsWithin l.fn.self l.need × IsEnoughForEach l.inside (take l.part-index l.part-items) l.need
