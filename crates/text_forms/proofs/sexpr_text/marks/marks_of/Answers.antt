use Rattle.std.proofs.Common.{◌+◌, false, None, ap, drop, get_or, refl, arith}
use Rattle.std.proofs.lemmas.Bool.{false≢true}
use Rattle.std.specs.Prelude.{◌==◌}
use Rattle.text_forms.specs.Bytes.{classes_from}
use Rattle.text_forms.specs.Tokens.{tokens_from}
use Rattle.text_forms.specs.sexpr_text.Places.{classes_at}
use Rattle.text_forms.specs.sexpr_text.Seen.{class_seen}
use Rattle.text_forms.proofs.sexpr_text.Depth.{has_fault, has_open_list, has_none, classes_next, classes_end}
use Rattle.text_forms.proofs.sexpr_text.Numbered.{place_end, place_number, place_depth}
use Rattle.text_forms.proofs.sexpr_text.marks.marks_of.Goals as goal

pub returns-then-is_fault-clause-faultless : goal.returns-then-is_fault-clause-faultless
returns-then-is_fault-clause-faultless c =
    let text = c.args.source.now in let p = c.loop-place.place in
    let k = class_seen c.class_of-class.result in
    let goes_on = get_or text p.at 0 == 59 in (
      λ e. absurd (false≢true e),
      λ clean. absurd (
          has_fault text p.depth p.at k (classes_from goes_on (drop (p.at + 1) text)) (classes_at text p.at) c.loop-place.invariant.deep
          (classes_next text false goes_on p.at k c.loop-place-test.true c.class_of-class.ensures.class refl)
          (λ opens l. (c.is_fault.ensures.fault opens l).0 c.if-is_fault.true) clean),
    )

pub returns-then-place-gt0-clause-faultless : goal.returns-then-place-gt0-clause-faultless
returns-then-place-gt0-clause-faultless c =
    let text = c.args.source.now in let p = c.loop-place.place in (
      λ e. absurd (false≢true e),
      λ clean. absurd (has_open_list text p.depth p.at (classes_at text p.at) c.loop-place.invariant.deep (classes_end text false p.at (omega arith)) (omega arith) clean),
    )

pub returns-clause-count : goal.returns-clause-count
returns-clause-count c =
    let text = c.args.source.now in let p = c.loop-place.place in
    place_end text c.loop-place.marks.count p c.loop-place.invariant.place (ap (tokens_from None p.at) (classes_end text false p.at (omega arith)))

pub returns-clause-faultless : goal.returns-clause-faultless
returns-clause-faultless c =
    let text = c.args.source.now in let p = c.loop-place.place in
    (λ _. has_none text p.depth p.at (classes_at text p.at) c.loop-place.invariant.deep (classes_end text false p.at (omega arith)) (omega arith), λ _. refl)

pub overflow_cast-place-in-loop-place-2 : goal.overflow_cast-place-in-loop-place-2
overflow_cast-place-in-loop-place-2 c =
    let text = c.args.source.now in let p = c.loop-place.place in let n = c.loop-place.marks.count in
    let few = place_depth text n p c.loop-place.invariant.place in
    let less = place_number text n p c.loop-place.invariant.place in
    let short = c.requires.short in
    omega arith
