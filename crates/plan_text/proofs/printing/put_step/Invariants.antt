use Rattle.std.proofs.Common.{take}
use Rattle.plan_text.specs.Printing.{args_text}
use Rattle.text_forms.specs.sheets.Sheets.{Wrote}
use Rattle.plan_text.proofs.printing.put_step.Given as goal

abbrev pub invariant-loop-arg : goal.invariant-loop-arg
invariant-loop-arg l = Wrote (args_text (take l.arg-index l.arg-items)) l.initial.sheet l.sheet
