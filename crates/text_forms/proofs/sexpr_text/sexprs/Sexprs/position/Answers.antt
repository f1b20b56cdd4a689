use Rattle.std.proofs.Common.{◌≡◌, arith, ap, length, subst, sym, refl, ◌∙◌}
use Rattle.text_forms.specs.sexpr_text.Index.{KeepsTokens}
use Rattle.text_forms.specs.sexpr_text.Positions.{IsPositionOf}
use Rattle.text_forms.proofs.sexpr_text.Entries.{entry_within, get_none}
use Rattle.text_forms.proofs.sexpr_text.FromPosition.{past}
use Rattle.text_forms.proofs.sexpr_text.sexprs.Sexprs.position.Goals as goal

pub returns-in-Some-entry : goal.returns-in-Some-entry
returns-in-Some-entry c =
    let text = c.self.inside.source.now in let e = c.in-Some-entry.entry in
    let index = subst (KeepsTokens text) c.in-Index.is c.self.invariant.tokens in
    let entry = index.each c.args.i e (sym c.in-Some-entry.ensures.entry) in
    let less = entry_within text c.args.i e entry in
    record {
      position = subst (λ t. IsPositionOf t c.args.i (record { token = c.args.i; at = e.at })) c.self.view_is
          (record { position = record { within = omega arith; here = entry.here }; number = refl });
    }

pub returns-in-None-entry : goal.returns-in-None-entry
returns-in-None-entry c =
    let text = c.self.inside.source.now in
    let index = subst (KeepsTokens text) c.in-Index.is c.self.invariant.tokens in
    let count = index.count in
    let all = get_none c.in-Index.index.entries.items c.args.i (sym c.in-None-entry.ensures.entry) in
    let end : c.text_len-in-None-entry.result ≡ length text = c.text_len-in-None-entry.ensures.bytes ∙ ap length (sym c.self.view_is) in
    record {
      position = subst (λ t. IsPositionOf t c.args.i (record { token = c.args.i; at = c.text_len-in-None-entry.result })) c.self.view_is
          (past text c.args.i c.text_len-in-None-entry.result (omega arith) end);
    }
