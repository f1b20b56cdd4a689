use Rattle.std.proofs.Common.{take}
use Rattle.pddl_printer.specs.Batches.{Added}
use Rattle.hddl_texts.specs.Texts.{objects_text}
use Rattle.hddl_texts.proofs.pages.put_objects.Given as goal

abbrev pub invariant-loop-object : goal.invariant-loop-object
invariant-loop-object l = Added (objects_text l.p l.constants (take l.object-index l.object-items)) l.initial.batch l.batch l.fn.sheet l.sheet
