use Rattle.std.proofs.Common.{ℕ, List, [], ◌∷◌, get_or, ap, ◌∙◌}
use Rattle.htn_base.specs.Words.{folded}
use Rattle.slot_encoding.specs.EncodedNames.{guard_word}
use Rattle.slot_encoding.proofs.slot_declarations.FoldedWords.{guard-folded}
use Rattle.slot_encoding.proofs.slot_declarations.Gained.{gains-of, gains-next_word}
use Rattle.slot_encoding.proofs.slot_declarations.schema_words.put_guards.Goals as goal

pub loop-ty-preserved : goal.loop-ty-preserved
loop-ty-preserved c =
    let types = c.as_slice-types.result.now in
    gains-next_word (guard_word c.args.c.now [] 0) types c.loop-ty.ty-index 0 c.loop-ty-test.true c.loop-ty.invariant
    (gains-of (ap (λ (w : List ℕ). folded w ∷ []) (c.as_slice.ensures.bytes ∙ c.in_ok-word.ensures) ∙ ap (λ (w : List ℕ). w ∷ []) (guard-folded c.args.c.now (get_or types c.loop-ty.ty-index 0))) c.in_ok-put.ensures)
