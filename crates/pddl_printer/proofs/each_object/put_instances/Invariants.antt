use Rattle.plan_model.specs.task_networks.Spelling.{numbers}
use Rattle.plan_texts.specs.SpellsPddl.{pddl_words}
use Rattle.pddl_printer.specs.Behind.{behind, of_each}
use Rattle.pddl_printer.specs.Literals.{literal_part}
use Rattle.pddl_printer.specs.Scopes.{words_in_force}
use Rattle.pddl_printer.specs.Batches.{Added}
use Rattle.pddl_printer.proofs.each_object.put_instances.Given as goal

abbrev pub invariant-loop-k : goal.invariant-loop-k
invariant-loop-k l = Added (of_each (λ o. behind (literal_part (pddl_words l.p) (words_in_force l.p l.scope) l.of.depth l.literal o)) (numbers l.of.written.range.first l.k)) l.initial.batch l.batch l.fn.sheet l.sheet
