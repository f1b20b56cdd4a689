use Rattle.std.proofs.Common.{take}
use Rattle.pddl_printer.specs.Batches.{Added}
use Rattle.hddl_texts.specs.Texts.{subtasks_text}
use Rattle.hddl_texts.proofs.networks.add_subtasks.Given as goal

abbrev pub invariant-loop-place : goal.invariant-loop-place
invariant-loop-place l = Added (subtasks_text l.p l.scope (take l.place l.children)) l.fn.batch l.batch l.fn.sheet l.sheet
