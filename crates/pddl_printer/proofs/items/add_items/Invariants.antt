use Rattle.std.proofs.Common.{take}
use Rattle.pddl_printer.specs.Behind.{of_each}
use Rattle.pddl_printer.specs.Batches.{Added}
use Rattle.pddl_printer.proofs.items.add_items.Given as goal

abbrev pub invariant-loop-item : goal.invariant-loop-item
invariant-loop-item g l = Added (of_each (g.T.Item.text l.p) (take l.item-index l.items)) l.fn.batch l.batch l.fn.sheet l.sheet
