use Rattle.std.proofs.Common.{ℕ, List, ap, ◌∙◌, arith}
use Rattle.htn_base.specs.Words.{folded}
use Rattle.htn_base.specs.Table.{with_word}
use Rattle.slot_encoding.proofs.slot_declarations.FoldedWords.{own-folded}
use Rattle.slot_encoding.proofs.slot_declarations.SourceWords.{source-next, source-all}
use Rattle.slot_encoding.proofs.slot_declarations.vocabulary.source_words.Goals as goal

pub loop-k-preserved : goal.loop-k-preserved
loop-k-preserved c =
    source-next c.args.source.now c.len.ensures.sound c.loop-k.k c.loop-k.names c.intern.new.self
    (omega (arith, c.loop-k-test.true, c.in_ok-count.ensures.same, c.len.ensures.length)) c.loop-k.invariant
    (c.in_ok-intern.ensures.words ∙ ap (λ (w : List ℕ). with_word c.loop-k.names (folded w)) (c.as_slice.ensures.bytes ∙ c.in_ok-word.ensures)
    ∙ ap (with_word c.loop-k.names) (own-folded c.args.source.now (record { number = c.loop-k.k })))

pub returns : goal.returns
returns c =
    source-all c.args.source.now c.len.ensures.sound c.loop-k.k c.loop-k.names c.put.new.names
    (omega (arith, c.loop-k-test.false, c.in_ok-count.ensures.same, c.len.ensures.length)) c.loop-k.invariant c.in_ok-put.ensures
