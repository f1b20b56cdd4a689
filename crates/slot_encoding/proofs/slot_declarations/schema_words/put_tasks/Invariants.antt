use Rattle.std.proofs.Common.{map, take}
use Rattle.slot_encoding.specs.slot_declarations.Vocabulary.{Gains, task_word}
use Rattle.slot_encoding.proofs.slot_declarations.schema_words.put_tasks.Given as goal

abbrev pub invariant-loop-task : goal.invariant-loop-task
invariant-loop-task l = Gains (map (task_word l.source) (take l.task-index l.tasks)) l.initial.names l.names
