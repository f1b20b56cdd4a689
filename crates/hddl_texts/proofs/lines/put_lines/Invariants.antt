use Rattle.std.proofs.Common.{take}
use Rattle.pddl_printer.specs.Behind.{of_each}
use Rattle.text_forms.specs.sheets.Sheets.{Wrote}
use Rattle.hddl_texts.proofs.lines.put_lines.Given as goal

abbrev pub invariant-loop-item : goal.invariant-loop-item
invariant-loop-item g l = Wrote (of_each (g.T.Line.text l.p) (take l.item-index l.items)) l.fn.sheet l.sheet
