use Rattle.std.proofs.Common.{◌≡◌, ◌+◌, drop}
use Rattle.hplan_text.specs.Lines.{is_blank}
use Rattle.hplan_text.specs.Scanning.{gap}
use Rattle.hplan_text.proofs.lines.word_end.Given as goal

abbrev pub invariant-loop-i : goal.invariant-loop-i
invariant-loop-i l = l.from + gap is_blank (drop l.from l.line) ≡ l.i + gap is_blank (drop l.i l.line)
