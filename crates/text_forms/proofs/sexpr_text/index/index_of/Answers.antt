use Rattle.std.proofs.Common.{◌+◌, false, None, ap, drop, get_or, refl, sym, ◌∙◌, length, arith}
use Rattle.std.proofs.lemmas.Bool.{false≢true, eqb-true}
use Rattle.std.proofs.lemmas.List.{length-reverse}
use Rattle.std.specs.Prelude.{◌==◌}
use Rattle.text_forms.specs.Bytes.{classes_from}
use Rattle.text_forms.specs.Tokens.{tokens_from}
use Rattle.text_forms.specs.sexpr_text.Places.{classes_at}
use Rattle.text_forms.specs.sexpr_text.Seen.{class_seen, opened}
use Rattle.text_forms.proofs.sexpr_text.Depth.{has_fault, has_open_list, has_none, classes_next, classes_end}
use Rattle.text_forms.proofs.sexpr_text.Indexed.{finish, not_none}
use Rattle.text_forms.proofs.sexpr_text.index.index_of.Goals as goal

pub returns-then-is_fault-clause-faultless : goal.returns-then-is_fault-clause-faultless
returns-then-is_fault-clause-faultless c =
    let text = c.args.source.now in let at = c.loop-at.at in let lists = c.loop-at.open_lists in
    let k = class_seen c.class_of-class.result in
    let goes_on = get_or text at 0 == 59 in (
      λ e. absurd (false≢true e),
      λ clean. absurd (
          has_fault text (length (opened lists)) at k (classes_from goes_on (drop (at + 1) text)) (classes_at text at) c.loop-at.invariant.deep
          (classes_next text false goes_on at k c.loop-at-test.true c.class_of-class.ensures.class refl)
          (λ opens l. (c.is_fault.ensures.fault opens (let ok = lists.ok.0 in let count = c.len.ensures in omega (arith, l, length-reverse lists.items))).0 c.if-is_fault.true) clean),
    )

pub returns-then-is_empty-clause-index : goal.returns-then-is_empty-clause-index
returns-then-is_empty-clause-index c =
    let text = c.args.source.now in let at = c.loop-at.at in
    finish text at c.loop-at.index (opened c.loop-at.open_lists) (ap (tokens_from None at) (classes_end text false at (omega arith))) c.loop-at.invariant.indexed

pub returns-then-is_empty-clause-faultless : goal.returns-then-is_empty-clause-faultless
returns-then-is_empty-clause-faultless c =
    let text = c.args.source.now in let at = c.loop-at.at in let lists = c.loop-at.open_lists in (
      λ _. has_none text (length (opened lists)) at (classes_at text at) c.loop-at.invariant.deep (classes_end text false at (omega arith))
          (let ok = lists.ok.0 in let none = eqb-true lists.len 0 (sym c.is_empty.ensures ∙ c.if-is_empty.true) in omega (arith, length-reverse lists.items)),
      λ _. refl,
    )

pub returns-else-is_empty-clause-faultless : goal.returns-else-is_empty-clause-faultless
returns-else-is_empty-clause-faultless c =
    let text = c.args.source.now in let at = c.loop-at.at in let lists = c.loop-at.open_lists in (
      λ e. absurd (false≢true e),
      λ clean. absurd (
          has_open_list text (length (opened lists)) at (classes_at text at) c.loop-at.invariant.deep (classes_end text false at (omega arith))
          (let ok = lists.ok.0 in let some = not_none lists.len (sym c.is_empty.ensures ∙ c.if-is_empty.false) in omega (arith, length-reverse lists.items)) clean),
    )
