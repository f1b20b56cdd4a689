use Rattle.std.proofs.Common.{map}
use Rattle.htn_base.specs.Escapes.{slot_word}
use Rattle.plan_model.specs.task_networks.Spelling.{numbers}
use Rattle.plan_text.specs.Printing.{args_text}
use Rattle.text_forms.specs.sheets.Sheets.{Wrote}
use Rattle.stack_speller.proofs.steps.put_cells.Given as goal

abbrev pub invariant-loop-number : goal.invariant-loop-number
invariant-loop-number l = Wrote (args_text (map slot_word (numbers l.tip l.number))) l.initial.sheet l.sheet
