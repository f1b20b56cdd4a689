use Rattle.std.proofs.Common.{map, take}
use Rattle.slot_encoding.specs.EncodedNames.{joined}
use Rattle.slot_encoding.specs.slot_declarations.Vocabulary.{Gains, words_of_method}
use Rattle.slot_encoding.proofs.slot_declarations.schema_words.put_methods.Given as goal

abbrev pub invariant-loop-plan : goal.invariant-loop-plan
invariant-loop-plan l = Gains (joined (map (words_of_method l.source) (take l.plan-index l.methods))) l.initial.names l.names
