use Rattle.plan_model.specs.task_networks.Spelling.{numbers}
use Rattle.pddl_printer.specs.Behind.{of_each}
use Rattle.pddl_printer.specs.Batches.{Added}
use Rattle.pddl_printer.specs.LowestFree.{is_lowest}
use Rattle.pddl_printer.specs.Texts.{formula_text}
use Rattle.pddl_printer.proofs.lowest.put_lowest.Given as goal

abbrev pub invariant-loop-k : goal.invariant-loop-k
invariant-loop-k l = Added (of_each (λ k. formula_text l.p l.scope (is_lowest l.lowest k)) (numbers 1 l.k)) l.initial.batch l.batch l.fn.sheet l.sheet
