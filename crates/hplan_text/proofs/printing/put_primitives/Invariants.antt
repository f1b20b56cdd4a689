use Rattle.std.proofs.Common.{take}
use Rattle.hplan_text.specs.HPlanText.{line_rows}
use Rattle.text_forms.specs.sheets.Sheets.{Wrote}
use Rattle.hplan_text.proofs.printing.put_primitives.Given as goal

abbrev pub invariant-loop-line : goal.invariant-loop-line
invariant-loop-line l = Wrote (line_rows (take l.line-index l.lines)) l.initial.sheet l.sheet
