use Rattle.std.proofs.Common.{◌+◌, ◌-◌}
use Rattle.text_forms.specs.sheets.Sheets.{Wrote}
use Rattle.text_forms.specs.declared.sheets.sheet.Sheet.{Sheet}
use Rattle.pddl_printer.specs.Behind.{of_each}
use Rattle.pddl_printer.specs.LowerFacts.{rows}
use Rattle.pddl_printer.specs.Texts.{fact_text}
use Rattle.pddl_printer.proofs.lower.put_lower.Given as goal

-- with the rows that are left, all are put
abbrev pub invariant-loop-k : goal.invariant-loop-k
invariant-loop-k l =
    let text = of_each (fact_text l.p) in
    let lower = l.lower in
    (end : Sheet) → Wrote (text (rows lower.predicate (lower.range.first + l.k) (lower.range.count - l.k))) l.sheet end → Wrote (text (rows lower.predicate lower.range.first lower.range.count)) l.fn.sheet end
