use Rattle.std.proofs.Common.{take}
use Rattle.pddl_printer.specs.Batches.{Added}
use Rattle.pddl_printer.specs.Behind.{of_each}
use Rattle.hddl_texts.specs.Texts.{constraint_text}
use Rattle.hddl_texts.proofs.networks.add_constraints.Given as goal

abbrev pub invariant-loop-constraint : goal.invariant-loop-constraint
invariant-loop-constraint l = Added (of_each (constraint_text l.p l.scope) (take l.constraint-index l.constraints)) l.fn.batch l.batch l.fn.sheet l.sheet
