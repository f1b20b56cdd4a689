use Rattle.std.proofs.Common.{length, ◌-◌}
use Rattle.htn_cli.proofs.Texts.{IsSentTo}
use Rattle.htn_cli.proofs.sending.send.Given as goal

-- the bytes before `done` were taken
abbrev pub invariant-loop-done : goal.invariant-loop-done
invariant-loop-done g l = IsSentTo l.text l.done (g.S.Sink.state l.initial.sink) (g.S.Sink.state l.sink)

abbrev pub decreases-loop-done : goal.decreases-loop-done
decreases-loop-done g l = length l.text - l.done
