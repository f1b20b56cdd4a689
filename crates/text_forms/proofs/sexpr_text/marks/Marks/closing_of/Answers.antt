use Rattle.std.proofs.Common.{◌≡◌, ◌+◌, suc, ap, sym, ◌∙◌, arith}
use Rattle.std.proofs.lemmas.Grind.{common_steps}
use Rattle.text_forms.specs.Closing.{close_of}
use Rattle.text_forms.specs.Tokens.{tokens}
use Rattle.text_forms.specs.sexpr_text.Places.{tokens_at, deeper}
use Rattle.text_forms.specs.sexpr_text.Seen.{piece_seen, kind_seen}
use Rattle.text_forms.proofs.sexpr_text.Numbered.{place_next, place_end, place_depth, place_number, close_of_place, close_past, closes_none}
use Rattle.text_forms.proofs.sexpr_text.marks.Marks.closing_of.Goals as goal

pub returns-in_err-place : goal.returns-in_err-place
returns-in_err-place c = record { close = c.from_residual.ensures ∙ sym (close_past (tokens c.args.source.now) 0 c.args.i c.in_err-place.ensures.place) }

pub returns-in_err-piece : goal.returns-in_err-piece
returns-in_err-piece c =
    let all = place_end c.args.source.now c.args.i c.in_ok-place.place c.in_ok-place.ensures.place c.in_err-piece.ensures.tokens in
    record { close = c.from_residual-in_err-piece.ensures ∙ sym (close_past (tokens c.args.source.now) 0 c.args.i (omega arith)) }

pub overflow_add-inside : goal.overflow_add-inside
overflow_add-inside c =
    let few = place_depth c.args.source.now c.args.i c.in_ok-place.place c.in_ok-place.ensures.place in
    let less = place_number c.args.source.now c.args.i c.in_ok-place.place c.in_ok-place.ensures.place in
    let short = c.requires.read.short in
    omega arith

pub closing_from-requires-clause-place : goal.closing_from-requires-clause-place
closing_from-requires-clause-place c =
    let p = c.in_ok-piece.piece in let depth = c.in_ok-place.place.depth in
    let one : depth + 1 ≡ suc depth = omega arith in
    place_next c.args.source.now c.args.i c.in_ok-place.place (record { at = p.span.end; depth = c.in_ok-place.place.depth + 1 }) (piece_seen p) c.in_ok-place.ensures.place c.in_ok-piece.ensures.tokens c.in_ok-piece.ensures.within
    (one ∙ sym (ap (λ k. deeper (kind_seen k) depth) c.in-Start.is))

pub returns-in-Start : goal.returns-in-Start
returns-in-Start c =
    let p = c.in_ok-piece.piece in let rest = tokens_at c.args.source.now p.span.end in
    record { close = c.closing_from.ensures.close ∙ sym (close_of_place c.args.source.now c.args.i p.span.end c.in_ok-place.place (piece_seen p) c.in_ok-place.ensures.place c.in_ok-piece.ensures.tokens ∙ ap (λ k. close_of (kind_seen k) c.args.i rest) c.in-Start.is) }

pub returns-in_default : goal.returns-in_default
returns-in_default c =
    let p = c.in_ok-piece.piece in let rest = tokens_at c.args.source.now p.span.end in
    record { close = sym (close_of_place c.args.source.now c.args.i p.span.end c.in_ok-place.place (piece_seen p) c.in_ok-place.ensures.place c.in_ok-piece.ensures.tokens ∙ closes_none p.kind c.args.i rest c.in_default.not-Start) }

pub overflow_add-i : goal.overflow_add-i
overflow_add-i c = grind (arith, common_steps)
