use Rattle.std.proofs.Common.{take}
use Rattle.pddl_printer.specs.Behind.{of_each}
use Rattle.pddl_printer.specs.Batches.{Added}
use Rattle.pddl_printer.specs.Texts.{fact_text}
use Rattle.pddl_printer.proofs.facts.put_facts.Given as goal

abbrev pub invariant-loop-i : goal.invariant-loop-i
invariant-loop-i l = Added (of_each (fact_text l.p) (take l.i l.facts)) l.initial.batch l.batch l.fn.sheet l.sheet
