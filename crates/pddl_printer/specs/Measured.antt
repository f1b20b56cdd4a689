-- How long the words of the objects of a range are together.
-- Source: this project's.
use Rattle.std.specs.Prelude.{◌≡◌, Option, None, Some, length, sum_by}
use Rattle.text_forms.specs.Words.{word_at}
use Rattle.plan_model.specs.task_networks.Spelling.{numbers}
use Rattle.plan_texts.specs.SpellsPddl.{pddl_words}
use Rattle.plan_model.specs.declared.values.Pddl.{Pddl}
use Rattle.text_forms.specs.sheets.Sheets.{capped}
use Rattle.pddl_printer.specs.declared.object_range.Range.{Range}
use Rattle.pddl_printer.specs.declared.written.Written.{Written}

-- as far as 64 bits go
abbrev pub IsMeasured : Pddl → Written → Type 0
IsMeasured p w = w.letters ≡ capped (sum_by (λ o. length (word_at (pddl_words p).objects o)) (numbers w.range.first w.range.count))

abbrev pub range_of : Option Written → Option Range
range_of None = None
range_of (Some w) = Some w.range
