use Rattle.std.proofs.Common.{◌≡◌, take}
use Rattle.plan_model.specs.plan_meaning.Truth.{values_of}
use Rattle.ground_state.specs.Frames.{frame}
use Rattle.tree_decoder.specs.Acts.{StaysNoted}
use Rattle.tree_decoder.proofs.testing.Scratch.work.Given as goal

abbrev pub invariant-loop-term : goal.invariant-loop-term
invariant-loop-term l = record {
  written : l.self.task.items ≡ values_of (frame l.self.env).objects (take l.term-index l.plan.schema.task_args);
  noted : StaysNoted l.fn.self l.self;
}
