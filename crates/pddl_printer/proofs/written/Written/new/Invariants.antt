use Rattle.std.proofs.Common.{◌≡◌, length}
use Rattle.std.specs.List.{sum_by}
use Rattle.text_forms.specs.Words.{word_at}
use Rattle.plan_model.specs.task_networks.Spelling.{numbers}
use Rattle.plan_texts.specs.SpellsPddl.{pddl_words}
use Rattle.text_forms.specs.sheets.Sheets.{capped}
use Rattle.pddl_printer.proofs.written.Written.new.Given as goal

abbrev pub invariant-loop-k : goal.invariant-loop-k
invariant-loop-k l = l.letters ≡ capped (sum_by (λ o. length (word_at (pddl_words l.p).objects o)) (numbers l.range.first l.k))
