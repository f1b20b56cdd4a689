use Rattle.std.proofs.Common.{◌≡◌, ◌++◌, map, take}
use Rattle.slot_encoding.specs.slot_declarations.Made as made
use Rattle.slot_encoding.proofs.slot_declarations.predicates.push_front.Given as goal

abbrev pub invariant-loop-predicate : goal.invariant-loop-predicate
invariant-loop-predicate l = l.into ≡ l.initial.into ++ map (made.predicate l.frame) (take l.predicate-index l.predicates)

abbrev pub invariant-loop-task : goal.invariant-loop-task
invariant-loop-task l = l.into ≡ l.initial.into ++ map (made.task_held l.frame) (take l.task-index l.tasks)
