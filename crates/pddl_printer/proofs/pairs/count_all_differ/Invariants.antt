use Rattle.std.proofs.Common.{◌≡◌}
use Rattle.plan_model.specs.task_networks.Spelling.{numbers}
use Rattle.text_forms.specs.sheets.Sheets.{capped}
use Rattle.pddl_printer.specs.Splits.{letters}
use Rattle.pddl_printer.proofs.pairs.count_all_differ.Given as goal

abbrev pub invariant-loop-k : goal.invariant-loop-k
invariant-loop-k l = l.letters ≡ capped (letters l.p l.params (numbers l.first l.k))
