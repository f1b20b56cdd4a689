use Rattle.std.proofs.Common.{◌≡◌, map, take}
use Rattle.htn_base.specs.Escapes.{escaped}
use Rattle.slot_encoding.proofs.slot_declarations.vocabulary.source_words.Given as goal

abbrev pub invariant-loop-k : goal.invariant-loop-k
invariant-loop-k l = l.names ≡ map escaped (take l.k l.source)
