use Rattle.std.proofs.Common.{◌≡◌, take}
use Rattle.plan_model.specs.plan_meaning.Truth.{values_of}
use Rattle.ground_state.proofs.env.Env.write.Given as goal

abbrev pub invariant-loop-term : goal.invariant-loop-term
invariant-loop-term l = l.into.items ≡ values_of l.self.values.items (take l.term-index l.terms)
