use Rattle.std.proofs.Common.{◌≡◌, ◌+◌, Some, None, refl, ap, sym, ◌∙◌, subst, arith}
use Rattle.std.specs.Option.{option_map}
use Rattle.std.specs.Prelude.{slice_get}
use Rattle.text_forms.specs.Tokens.{tokens}
use Rattle.text_forms.specs.declared.sexpr_text.positions.Position.{Position}
use Rattle.text_forms.specs.sexpr_text.Positions.{IsPosition, IsPositionOf}
use Rattle.text_forms.specs.sexpr_text.Seen.{piece_seen, token_seen}
use Rattle.text_forms.proofs.sexpr_text.FromPosition.{few_bytes, next, none_here, token_here}
use Rattle.text_forms.proofs.sexpr_text.sexprs.Sexprs.token_from.Goals as goal

pub returns-in_err-piece-clause-token : goal.returns-in_err-piece-clause-token
returns-in_err-piece-clause-token c =
    let text = c.self.inside.source.now in
    let here = subst (λ t. IsPosition t c.args.p) (sym c.self.view_is) c.requires.position in
    ap (option_map (λ x. token_seen x.0)) c.from_residual.ensures
    ∙ subst (λ t. None ≡ slice_get (tokens t) c.args.p.token) c.self.view_is (none_here text c.args.p here c.in_err-piece.ensures.tokens)

pub overflow_add-next : goal.overflow_add-next
overflow_add-next c =
    let text = c.self.inside.source.now in let p = c.in_ok-piece.piece in
    let q : Position = record { token = c.args.p.token + 1; at = p.span.end } in
    let here = subst (λ t. IsPosition t c.args.p) (sym c.self.view_is) c.requires.position in
    let less = few_bytes text c.args.p q (piece_seen p) here c.in_ok-piece.ensures.tokens in
    let short = c.self.invariant.short in
    omega arith

pub returns-clause-token : goal.returns-clause-token
returns-clause-token c =
    let text = c.self.inside.source.now in let p = c.in_ok-piece.piece in
    let q : Position = record { token = c.args.p.token + 1; at = p.span.end } in
    let here = subst (λ t. IsPosition t c.args.p) (sym c.self.view_is) c.requires.position in
    sym (subst (λ t. slice_get (tokens t) c.args.p.token ≡ Some (piece_seen p)) c.self.view_is
    (token_here text c.args.p q (piece_seen p) here c.in_ok-piece.ensures.tokens))

pub returns-clause-next : goal.returns-clause-next
returns-clause-next c =
    let text = c.self.inside.source.now in let p = c.in_ok-piece.piece in
    let q : Position = record { token = c.args.p.token + 1; at = p.span.end } in
    let here = subst (λ t. IsPosition t c.args.p) (sym c.self.view_is) c.requires.position in
    let ahead = c.in_ok-piece.ensures in
    subst (λ t. IsPositionOf t (c.args.p.token + 1) q) c.self.view_is
    (record { position = next text c.args.p q (piece_seen p) here ahead.tokens ahead.within refl; number = refl })
