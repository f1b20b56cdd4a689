use Rattle.plan_model.specs.task_networks.Spelling.{numbers}
use Rattle.pddl_printer.specs.Behind.{of_each}
use Rattle.pddl_printer.specs.Batches.{Added}
use Rattle.pddl_printer.specs.LowestFree.{taken}
use Rattle.pddl_printer.specs.Texts.{formula_text}
use Rattle.pddl_printer.proofs.lowest.add_body.Given as goal

abbrev pub invariant-loop-j : goal.invariant-loop-j
invariant-loop-j l = Added (of_each (λ j. formula_text l.p l.scope (taken l.lowest j)) (numbers 1 l.j)) l.initial.batch l.batch l.initial.sheet l.sheet
