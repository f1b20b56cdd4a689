use Rattle.std.proofs.Common.{take}
use Rattle.pddl_printer.specs.Batches.{Added}
use Rattle.pddl_printer.specs.Behind.{behind, of_each}
use Rattle.hddl_texts.specs.PrintedHddl.{order_part}
use Rattle.hddl_texts.proofs.networks.add_orderings.Given as goal

abbrev pub invariant-loop-pair : goal.invariant-loop-pair
invariant-loop-pair l = Added (of_each (λ x. behind (order_part x)) (take l.pair-index l.pairs)) l.fn.batch l.batch l.fn.sheet l.sheet
