use Rattle.std.proofs.Common.{take}
use Rattle.ground_state.specs.Needs.{IsWithin, IsEnoughForEachAction}
use Rattle.ground_state.proofs.need.Need.with_actions.Given as goal

-- enough for those so far
abbrev pub invariant-loop-action : goal.invariant-loop-action
invariant-loop-action l = IsWithin l.fn.self l.need × IsEnoughForEachAction (take l.action-index l.actions) l.need
