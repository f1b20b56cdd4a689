use Rattle.std.proofs.Common.{take}
use Rattle.plan_texts.specs.SpellsPddl.{pddl_words}
use Rattle.plan_texts.specs.Printed.{formula_part}
use Rattle.pddl_printer.specs.Behind.{behind, of_each}
use Rattle.pddl_printer.specs.Scopes.{words_in_force}
use Rattle.pddl_printer.specs.Batches.{Added}
use Rattle.pddl_printer.proofs.formulas.+formulas.Given as goal

abbrev pub invariant-add_formulas-loop-formula : goal.invariant-add_formulas-loop-formula
invariant-add_formulas-loop-formula l = Added (of_each (λ f. behind (formula_part (pddl_words l.p) f (words_in_force l.p l.scope))) (take l.formula-index l.formulas)) l.fn.batch l.batch l.fn.sheet l.sheet
