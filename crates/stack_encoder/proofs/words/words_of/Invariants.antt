use Rattle.std.proofs.Common.{ℕ, List, Bor, map, take}
use Rattle.htn_base.specs.Words.{folded}
use Rattle.slot_encoding.specs.slot_declarations.Vocabulary.{Gains}
use Rattle.stack_encoder.proofs.words.words_of.Given as goal

abbrev pub invariant-loop-word : goal.invariant-loop-word
invariant-loop-word l = Gains (map (λ (word : Bor (List ℕ)). folded word.now) (take l.word-index l.words)) l.initial.names l.names
