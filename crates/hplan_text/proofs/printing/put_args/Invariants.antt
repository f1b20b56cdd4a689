use Rattle.std.proofs.Common.{take}
use Rattle.hplan_text.specs.HPlanText.{words_behind}
use Rattle.text_forms.specs.sheets.Sheets.{Wrote}
use Rattle.hplan_text.proofs.printing.put_args.Given as goal

abbrev pub invariant-loop-arg : goal.invariant-loop-arg
invariant-loop-arg l = Wrote (words_behind (take l.arg-index l.args)) l.initial.sheet l.sheet
