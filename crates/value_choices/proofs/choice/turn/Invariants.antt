use Rattle.value_choices.proofs.Turning.{AreWound}
use Rattle.value_choices.proofs.choice.turn.Given as goal

abbrev pub invariant-loop-i : goal.invariant-loop-i
invariant-loop-i l = AreWound l.ranges l.initial.values l.values l.i
