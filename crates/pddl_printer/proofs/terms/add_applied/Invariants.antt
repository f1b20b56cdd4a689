use Rattle.std.proofs.Common.{take}
use Rattle.plan_texts.specs.SpellsPddl.{pddl_words}
use Rattle.plan_texts.specs.Printed.{term_part}
use Rattle.pddl_printer.specs.Behind.{behind, of_each}
use Rattle.pddl_printer.specs.Scopes.{words_in_force}
use Rattle.pddl_printer.specs.Batches.{Added}
use Rattle.pddl_printer.proofs.terms.add_applied.Given as goal

abbrev pub invariant-loop-term : goal.invariant-loop-term
invariant-loop-term l = Added (of_each (λ t. behind (term_part (pddl_words l.p) (words_in_force l.p l.scope) t)) (take l.term-index l.terms)) l.initial.batch l.batch l.initial.sheet l.sheet
