use Rattle.std.proofs.Common.{◌+◌, ◌-◌, ap, sym, ◌∙◌, arith}
use Rattle.std.proofs.lemmas.Grind.{common_steps}
use Rattle.text_forms.specs.Closing.{close_after}
use Rattle.text_forms.specs.sexpr_text.Places.{tokens_at}
use Rattle.text_forms.specs.sexpr_text.Seen.{piece_seen, kind_seen}
use Rattle.text_forms.proofs.sexpr_text.Numbered.{place_next, place_depth, place_number, farther_place, over_marks, goes_on}
use Rattle.text_forms.proofs.sexpr_text.marks.Marks.closing_from.Goals as goal

pub overflow_add-i : goal.overflow_add-i
overflow_add-i c =
    let text = c.args.source.now in
    let farther = c.in-Some.farther in
    let there = farther_place text c.loop-i.i c.args.place.depth c.args.self.now c.loop-i.place farther c.requires.read.marks c.in-Some.ensures.farther in
    let less = place_number text (c.loop-i.i + 8) farther there in
    let short = c.requires.read.short in
    omega arith

pub loop-i-preserved-in-Some : goal.loop-i-preserved-in-Some
loop-i-preserved-in-Some c =
    let text = c.args.source.now in
    let base = c.args.place.depth in
    let there = farther_place text c.loop-i.i base c.args.self.now c.loop-i.place c.in-Some.farther c.requires.read.marks c.in-Some.ensures.farther in
    let over =
    over_marks text c.loop-i.i base c.args.self.now c.loop-i.place c.in-Some.farther c.requires.read.marks c.in-Some.ensures.farther
    c.loop-i.invariant.place c.requires.inside c.loop-i.invariant.depth in
    record { place = there; depth = over.0; rest = c.loop-i.invariant.rest ∙ over.1 }

pub deeper-behind-requires : goal.deeper-behind-requires
deeper-behind-requires c =
    let few = place_depth c.args.source.now c.loop-i.i c.loop-i.place c.loop-i.invariant.place in
    let less = place_number c.args.source.now c.loop-i.i c.loop-i.place c.loop-i.invariant.place in
    let short = c.requires.read.short in
    record { few = omega arith }

pub overflow_add-i-in-loop-i : goal.overflow_add-i-in-loop-i
overflow_add-i-in-loop-i c =
    let less = place_number c.args.source.now c.loop-i.i c.loop-i.place c.loop-i.invariant.place in
    let short = c.requires.read.short in
    omega arith

pub loop-i-preserved : goal.loop-i-preserved
loop-i-preserved c =
    let text = c.args.source.now in let p = c.in_ok-piece.piece in let base = c.args.place.depth in
    let behind = c.deeper-behind.ensures.deeper in
    let depth = c.if-behind-depth.false in
    record {
      place = place_next text c.loop-i.i c.loop-i.place (record { at = p.span.end; depth = c.deeper-behind.result }) (piece_seen p) c.loop-i.invariant.place c.in_ok-piece.ensures.tokens c.in_ok-piece.ensures.within behind;
      depth = depth;
      rest = c.loop-i.invariant.rest
          ∙ ap (close_after (c.loop-i.place.depth - base) c.loop-i.i) c.in_ok-piece.ensures.tokens
          ∙ goes_on (kind_seen p.kind) c.loop-i.place.depth base c.loop-i.i (λ d. close_after d (c.loop-i.i + 1) (tokens_at text p.span.end)) c.requires.inside c.loop-i.invariant.depth (omega arith)
          ∙ ap (λ d. close_after (d - base) (c.loop-i.i + 1) (tokens_at text p.span.end)) (sym behind);
    }

pub returns : goal.returns
returns c = grind (arith, common_steps)
