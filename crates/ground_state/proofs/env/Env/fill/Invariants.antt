use Rattle.std.proofs.Common.{◌≡◌, take}
use Rattle.plan_model.specs.plan_meaning.Truth.{values_of}
use Rattle.ground_state.specs.Frames.{frame}
use Rattle.ground_state.proofs.env.Env.fill.Given as goal

abbrev pub invariant-loop-term : goal.invariant-loop-term
invariant-loop-term l = (l.self.args.items ≡ values_of l.fn.self.values.items (take l.term-index l.terms)) × (frame l.self ≡ frame l.fn.self)
