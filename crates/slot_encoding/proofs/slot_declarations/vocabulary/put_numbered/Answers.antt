use Rattle.std.proofs.Common.{ℕ, List, ◌+◌, [], ◌∷◌, ◌++◌, decimal, ap, ◌∙◌, arith}
use Rattle.htn_base.specs.Words.{folded}
use Rattle.slot_encoding.proofs.slot_declarations.FoldedWords.{join-folded, decimal-folded}
use Rattle.slot_encoding.proofs.slot_declarations.Gained.{gains-none, gains-of, gains-next_number, gains-all_numbers}
use Rattle.slot_encoding.proofs.slot_declarations.vocabulary.put_numbered.Goals as goal

pub loop-k-init : goal.loop-k-init
loop-k-init c = gains-none c.args.names.now

pub loop-k-preserved : goal.loop-k-preserved
loop-k-preserved c =
    let k = 1 + c.loop-k.k in
    gains-next_number (λ (j : ℕ). c.args.prefix.now ++ decimal j) c.loop-k.k c.loop-k.invariant
    (gains-of (ap (λ (w : List ℕ). folded w ∷ []) (c.as_slice.ensures.value ∙ c.in_ok-spell_numbered.ensures) ∙ ap (λ (w : List ℕ). w ∷ []) (join-folded c.args.prefix.now (decimal k) c.requires (decimal-folded k))) c.in_ok-put.ensures)

pub returns : goal.returns
returns c = gains-all_numbers (λ (j : ℕ). c.args.prefix.now ++ decimal j) c.loop-k.k c.args.count (omega arith) c.loop-k.invariant
