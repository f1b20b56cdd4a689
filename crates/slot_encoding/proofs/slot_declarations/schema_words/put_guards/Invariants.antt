use Rattle.std.proofs.Common.{[], map, take}
use Rattle.slot_encoding.specs.EncodedNames.{guard_word}
use Rattle.slot_encoding.specs.slot_declarations.Vocabulary.{Gains}
use Rattle.slot_encoding.proofs.slot_declarations.schema_words.put_guards.Given as goal

abbrev pub invariant-loop-ty : goal.invariant-loop-ty
invariant-loop-ty l = Gains (map (guard_word l.c [] 0) (take l.ty-index l.types)) l.initial.names l.names
