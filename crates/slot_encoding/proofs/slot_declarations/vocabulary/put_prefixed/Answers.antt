use Rattle.std.proofs.Common.{ℕ, List, [], ◌∷◌, ap, ◌∙◌}
use Rattle.htn_base.specs.Words.{folded}
use Rattle.slot_encoding.specs.SourceParts.{source_word}
use Rattle.slot_encoding.proofs.slot_declarations.FoldedWords.{join-folded, own-folded}
use Rattle.slot_encoding.proofs.slot_declarations.Gained.{ok-of}
use Rattle.slot_encoding.proofs.slot_declarations.vocabulary.put_prefixed.Goals as goal

pub returns : goal.returns
returns c =
    ok-of c.put.result _ _ c.args.names.now c.put.new.names
    (ap (λ (w : List ℕ). folded w ∷ []) (c.as_slice.ensures.bytes ∙ c.in_ok-word.ensures) ∙ ap (λ (w : List ℕ). w ∷ []) (join-folded c.args.prefix.now (source_word c.args.source.now c.args.name) c.requires (own-folded c.args.source.now c.args.name)))
    c.put.ensures
