use Rattle.std.proofs.Common.{[], ◌∷◌, ap}
use Rattle.slot_encoding.specs.slot_declarations.Vocabulary.{action_word}
use Rattle.slot_encoding.proofs.slot_declarations.Gained.{gains-none, gains-of, gains-next_word, gains-all_words}
use Rattle.slot_encoding.proofs.slot_declarations.schema_words.put_actions.Goals as goal

pub loop-action-init : goal.loop-action-init
loop-action-init c = gains-none c.args.names.now

pub loop-action-preserved : goal.loop-action-preserved
loop-action-preserved c =
    gains-next_word (action_word c.args.source.now) c.args.actions.now c.loop-action.action-index c.action-item.result c.loop-action-test.true c.loop-action.invariant
    (gains-of (ap (λ s. action_word c.args.source.now s ∷ []) c.action-item.is) c.in_ok-put_prefixed.ensures)

pub returns : goal.returns
returns c = gains-all_words (action_word c.args.source.now) c.args.actions.now c.loop-action.action-index c.loop-action-test.false c.loop-action.invariant
