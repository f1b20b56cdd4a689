use Rattle.std.proofs.Common.{map}
use Rattle.plan_model.specs.task_networks.Spelling.{numbers}
use Rattle.plan_texts.specs.Declared.{variable}
use Rattle.plan_texts.specs.SpellsPddl.{pddl_words}
use Rattle.pddl_printer.specs.Behind.{of_each}
use Rattle.text_forms.specs.sheets.Sheets.{Wrote}
use Rattle.pddl_printer.proofs.PairBytes.{row_to}
use Rattle.pddl_printer.proofs.pairs.put_all_differ.Given as goal

abbrev pub invariant-loop-k : goal.invariant-loop-k
invariant-loop-k l = Wrote (of_each (row_to (pddl_words l.p) (map (variable (pddl_words l.p)) l.params) l.spare) (numbers 1 l.k)) l.fn.sheet l.sheet
