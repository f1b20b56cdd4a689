use Rattle.std.proofs.Common.{◌-◌, codes, ap, ◌∙◌, arith}
use Rattle.slot_encoding.specs.EncodedWords.{numbered}
use Rattle.slot_encoding.specs.slot_declarations.Vocabulary.{most_params, most_children}
use Rattle.slot_encoding.proofs.slot_declarations.Gained.{gains-of, ok-of, ok-join}
use Rattle.slot_encoding.proofs.slot_declarations.schema_words.put_numbers.Goals as goal

pub returns : goal.returns
returns c =
    let s = c.args.c.now in
    let h = c.put_numbered-2.result in
    let new = c.put_numbered-2.new.names in
    let params = gains-of (ap (numbered (codes "htn_a")) (c.in_ok-params.ensures.same ∙ c.most_params.ensures)) c.in_ok-put_numbered.ensures in
    let count = c.in_ok-children.ensures.same ∙ c.most_children.ensures ∙ ap most_children c.as_slice.ensures.items in
    ok-join h (numbered (codes "htn_a") (most_params s)) (numbered (codes "htn_h") (most_children s.methods - 1)) c.args.names.now c.put_numbered.new.names new params
    (ok-of h _ _ c.put_numbered.new.names new (ap (numbered (codes "htn_h")) (omega (arith, c.saturating_sub.ensures, count))) c.put_numbered-2.ensures)
