use Rattle.std.proofs.Common.{length}
use Rattle.tree_decoder.specs.AtTip.{HasTakenAtTip}
use Rattle.tree_texts.proofs.StepsTaken.{IsDecodedTo}
use Rattle.tree_texts.proofs.text.stack_decoded.Given as goal

abbrev pub decreases-loop-step : goal.decreases-loop-step
decreases-loop-step l = length l.steps

abbrev pub invariant-loop-step : goal.invariant-loop-step
invariant-loop-step l = IsDecodedTo (HasTakenAtTip l.c l.cells) l.plan l.steps l.number l.decoder
