use Rattle.std.proofs.Common.{◌-◌, drop, length}
use Rattle.hplan_text.specs.Lines.{lines_from}
use Rattle.hplan_text.proofs.ReadLines.{IsDraftedTo}
use Rattle.hplan_text.proofs.reading.draft_lines.Given as goal

abbrev pub decreases-loop-at : goal.decreases-loop-at
decreases-loop-at l = length l.text - l.at

abbrev pub invariant-loop-at : goal.invariant-loop-at
invariant-loop-at l = IsDraftedTo (lines_from l.from (drop l.from l.text)) (lines_from l.at (drop l.at l.text)) l.draft
