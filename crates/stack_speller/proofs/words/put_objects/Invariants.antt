use Rattle.std.proofs.Common.{map, take}
use Rattle.plan_model.specs.plan_meaning.SpelledPlan.{object_word}
use Rattle.plan_text.specs.Printing.{args_text}
use Rattle.text_forms.specs.sheets.Sheets.{Wrote}
use Rattle.stack_speller.proofs.words.put_objects.Given as goal

abbrev pub invariant-loop-number : goal.invariant-loop-number
invariant-loop-number l = Wrote (args_text (map (object_word l.c) (take l.number-index l.objects))) l.initial.sheet l.sheet
