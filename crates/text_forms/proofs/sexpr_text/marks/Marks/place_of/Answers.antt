use Rattle.std.proofs.Common.{◌≡◌, ◌+◌, ◌*◌, ◌/◌, ◌≤◌, subst, sym, arith}
use Rattle.std.proofs.lemmas.Nat.{div-add-mod'}
use Rattle.std.specs.Prelude.{MatchOption}
use Rattle.text_forms.specs.Tokens.{token_count}
use Rattle.text_forms.specs.sexpr_text.Places.{IsPlace}
use Rattle.text_forms.specs.sexpr_text.Seen.{piece_seen}
use Rattle.text_forms.proofs.sexpr_text.Numbered.{place_next, place_end, place_depth, place_number}
use Rattle.text_forms.proofs.sexpr_text.marks.Marks.place_of.Goals as goal

pub loop-init : goal.loop-init
loop-init c =
    let none : c.args.i / 8 * 8 ≡ c.args.i / 8 * 8 + 0 = omega arith in
    subst (λ n. IsPlace c.args.source.now n c.in_ok-place.place) none (c.requires.read.marks.places (c.args.i / 8) c.in_ok-place.place (sym c.in_ok-place.ensures.mark))

pub returns-in_err-piece : goal.returns-in_err-piece
returns-in_err-piece c = record {
  place = subst (λ o. MatchOption o (token_count c.args.source.now ≤ c.args.i) (IsPlace c.args.source.now c.args.i)) (sym c.from_residual-in_err-piece.ensures)
      (let all = place_end c.args.source.now _ c.loop.place c.loop.invariant c.in_err-piece.ensures.tokens in let less = c.loop-test.true in omega (arith, div-add-mod' c.args.i 8));
}

pub deeper-requires : goal.deeper-requires
deeper-requires c =
    let few = place_depth c.args.source.now _ c.loop.place c.loop.invariant in
    let less = place_number c.args.source.now _ c.loop.place c.loop.invariant in
    let short = c.requires.read.short in
    record { few = omega arith }

pub loop-preserved : goal.loop-preserved
loop-preserved c =
    let more : c.args.i / 8 * 8 + c.loop.counter + 1 ≡ c.args.i / 8 * 8 + (c.loop.counter + 1) = omega arith in
    let p = c.in_ok-piece.piece in
    subst (λ n. IsPlace c.args.source.now n (record { at = p.span.end; depth = c.deeper.result })) more
    (place_next c.args.source.now (c.args.i / 8 * 8 + c.loop.counter) c.loop.place (record { at = p.span.end; depth = c.deeper.result }) (piece_seen p) c.loop.invariant c.in_ok-piece.ensures.tokens c.in_ok-piece.ensures.within c.deeper.ensures.deeper)
