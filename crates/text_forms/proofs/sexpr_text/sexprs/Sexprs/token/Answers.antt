use Rattle.std.proofs.Common.{◌≡◌, Some, None, ap, subst, ◌∙◌}
use Rattle.std.specs.Option.{option_map}
use Rattle.std.specs.Prelude.{slice_get}
use Rattle.text_forms.specs.Tokens.{tokens}
use Rattle.text_forms.specs.sexpr_text.Seen.{piece_seen, token_seen}
use Rattle.text_forms.proofs.sexpr_text.Numbered.{piece_here}
use Rattle.text_forms.proofs.sexpr_text.sexprs.Sexprs.token.Goals as goal
use Rattle.text_forms.proofs.sexpr_text.sexprs.Sexprs.token.Goals.{in-Marks+in_ok-place_of-in-Marks+in_ok-piece-in-Marks, in-Index+in_ok-piece-in-Index}

pub returns-in_err-piece-in-Marks-clause-token : goal.returns-in_err-piece-in-Marks-clause-token
returns-in_err-piece-in-Marks-clause-token c =
    let text = c.self.inside.source.now in
    ap (option_map token_seen) c.from_residual-in_err-piece-in-Marks.ensures
    ∙ subst (λ t. None ≡ slice_get (tokens t) c.args.i) c.self.view_is
    (piece_here text c.args.i c.in_ok-place_of-in-Marks.field-0 None c.in_ok-place_of-in-Marks.ensures.place c.in_err-piece-in-Marks.ensures.tokens)

pub returns-clause-token : goal.returns-clause-token
returns-clause-token c =
    let text = c.self.inside.source.now in
    let here : Some (piece_seen c.match-self.piece) ≡ slice_get (tokens text) c.args.i =
    elim c.match-self.branch [
      | in-Marks+in_ok-place_of-in-Marks+in_ok-piece-in-Marks w ↦
          ap (λ p. Some (piece_seen p)) w.piece-is
          ∙ piece_here text c.args.i w.in_ok-place_of-in-Marks.field-0 (Some w.in_ok-piece-in-Marks.piece) w.in_ok-place_of-in-Marks.ensures.place w.in_ok-piece-in-Marks.ensures.tokens
      | in-Index+in_ok-piece-in-Index w ↦ ap (λ p. Some (piece_seen p)) w.piece-is ∙ w.in_ok-piece-in-Index.ensures.piece
    ] in
    subst (λ t. Some (piece_seen c.match-self.piece) ≡ slice_get (tokens t) c.args.i) c.self.view_is here
