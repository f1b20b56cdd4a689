use Rattle.std.proofs.Common.{◌+◌}
use Rattle.plan_model.specs.task_networks.Spelling.{numbers}
use Rattle.pddl_printer.specs.Behind.{of_each}
use Rattle.pddl_printer.specs.Batches.{Added}
use Rattle.pddl_printer.specs.LowerFacts.{is_lower}
use Rattle.pddl_printer.specs.Texts.{fact_text}
use Rattle.pddl_printer.proofs.lower.put_row.Given as goal

abbrev pub invariant-loop-j : goal.invariant-loop-j
invariant-loop-j l =
    Added (of_each (λ u. fact_text l.p (is_lower l.fn.lower.predicate (l.fn.lower.range.first + l.k) u)) (numbers (l.fn.lower.range.first + l.k + 1) l.j)) l.initial.batch l.batch l.fn.sheet l.sheet
