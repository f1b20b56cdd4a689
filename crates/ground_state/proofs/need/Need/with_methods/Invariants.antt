use Rattle.std.proofs.Common.{take}
use Rattle.ground_state.specs.Needs.{IsWithin, IsEnoughForEachMethod}
use Rattle.ground_state.proofs.need.Need.with_methods.Given as goal

-- enough for those so far
abbrev pub invariant-loop-plan : goal.invariant-loop-plan
invariant-loop-plan l = IsWithin l.fn.self l.need × IsEnoughForEachMethod (take l.plan-index l.methods) l.need
