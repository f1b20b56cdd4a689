use Rattle.std.proofs.Common.{◌≡◌, take}
use Rattle.plan_model.specs.plan_meaning.Truth.{values_of}
use Rattle.state_history.proofs.desk.Desk.ground.Given as goal

abbrev pub invariant-loop-term : goal.invariant-loop-term
invariant-loop-term l = l.args ≡ values_of l.self.values.items (take l.term-index l.term-items)
