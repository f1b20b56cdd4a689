use Rattle.std.proofs.Common.{◌≡◌, ◌-◌, drop, length}
use Rattle.hplan_text.specs.Lines.{marked, behind_begin, lines_from}
use Rattle.hplan_text.proofs.reading.begin.Given as goal

abbrev pub decreases-loop-at : goal.decreases-loop-at
decreases-loop-at l = length l.text - l.at

abbrev pub invariant-loop-at : goal.invariant-loop-at
invariant-loop-at l = marked l.text ≡ behind_begin (lines_from l.at (drop l.at l.text))
