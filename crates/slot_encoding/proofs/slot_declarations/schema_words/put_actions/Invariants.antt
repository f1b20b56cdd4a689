use Rattle.std.proofs.Common.{map, take}
use Rattle.slot_encoding.specs.slot_declarations.Vocabulary.{Gains, action_word}
use Rattle.slot_encoding.proofs.slot_declarations.schema_words.put_actions.Given as goal

abbrev pub invariant-loop-action : goal.invariant-loop-action
invariant-loop-action l = Gains (map (action_word l.source) (take l.action-index l.actions)) l.initial.names l.names
