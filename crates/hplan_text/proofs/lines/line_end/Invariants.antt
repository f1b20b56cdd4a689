use Rattle.std.proofs.Common.{◌≡◌, ◌+◌, drop}
use Rattle.hplan_text.specs.Lines.{is_line_end}
use Rattle.hplan_text.specs.Scanning.{gap}
use Rattle.hplan_text.proofs.lines.line_end.Given as goal

abbrev pub invariant-loop-i : goal.invariant-loop-i
invariant-loop-i l = l.from + gap is_line_end (drop l.from l.text) ≡ l.i + gap is_line_end (drop l.i l.text)
