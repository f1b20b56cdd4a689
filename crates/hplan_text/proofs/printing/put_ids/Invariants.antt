use Rattle.std.proofs.Common.{take, map}
use Rattle.std.specs.Fmt.{decimal}
use Rattle.hplan_text.specs.HPlanText.{words_behind}
use Rattle.text_forms.specs.sheets.Sheets.{Wrote}
use Rattle.hplan_text.proofs.printing.put_ids.Given as goal

abbrev pub invariant-loop-id : goal.invariant-loop-id
invariant-loop-id l = Wrote (words_behind (map decimal (take l.id-index l.ids))) l.initial.sheet l.sheet
