use Rattle.std.proofs.Common.{[], ◌∷◌, ap}
use Rattle.slot_encoding.specs.slot_declarations.Vocabulary.{task_word}
use Rattle.slot_encoding.proofs.slot_declarations.Gained.{gains-none, gains-of, gains-next_word, gains-all_words}
use Rattle.slot_encoding.proofs.slot_declarations.schema_words.put_tasks.Goals as goal

pub loop-task-init : goal.loop-task-init
loop-task-init c = gains-none c.args.names.now

pub loop-task-preserved : goal.loop-task-preserved
loop-task-preserved c =
    gains-next_word (task_word c.args.source.now) c.args.tasks.now c.loop-task.task-index c.task-item.result c.loop-task-test.true c.loop-task.invariant
    (gains-of (ap (λ s. task_word c.args.source.now s ∷ []) c.task-item.is) c.in_ok-put_prefixed.ensures)

pub returns : goal.returns
returns c = gains-all_words (task_word c.args.source.now) c.args.tasks.now c.loop-task.task-index c.loop-task-test.false c.loop-task.invariant
