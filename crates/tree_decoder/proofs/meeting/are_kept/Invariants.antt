use Rattle.std.proofs.Common.{take}
use Rattle.ground_state.specs.Frames.{frame}
use Rattle.tree_decoder.specs.Acts.{AreKept}
use Rattle.tree_decoder.proofs.meeting.are_kept.Given as goal

abbrev pub invariant-loop-guard : goal.invariant-loop-guard
invariant-loop-guard l = AreKept l.world (frame l.env).objects (take l.guard-index l.guards)
