-- Positions, from token to token.
use Rattle.std.proofs.Common.{◌≡◌, ℕ, suc, ◌+◌, ◌<◌, ◌≤◌, length, drop, false, refl, Some, None, List, [], ◌∷◌, sym, ap, ◌∙◌, arith}
use Rattle.std.proofs.lemmas.List.{at_drop_all}
use Rattle.std.proofs.lemmas.Option.{slice_get_past}
use Rattle.text_forms.specs.Bytes.{classes_from}
use Rattle.std.specs.Prelude.{slice_get}
use Rattle.text_forms.specs.Tokens.{Token, token_count, tokens, tokens_from}
use Rattle.text_forms.proofs.Lists.{few_tokens}
use Rattle.text_forms.specs.declared.sexpr_text.positions.Position.{Position}
use Rattle.text_forms.specs.sexpr_text.Places.{tokens_at}
use Rattle.text_forms.specs.sexpr_text.Positions.{IsPosition, IsPositionOf}
use Rattle.text_forms.proofs.sexpr_text.Numbered.{drop_next, drop_nil}

-- over one token
module _ (text : List ℕ) (p q : Position) (t : Token) (h : IsPosition text p) (e : tokens_at text p.at ≡ t ∷ tokens_at text q.at) where
  step : (p.token < length (tokens text)) × (drop (suc p.token) (tokens text) ≡ tokens_at text q.at) × (slice_get (tokens text) p.token ≡ Some t)
  step = drop_next p.token (tokens text) (tokens_at text q.at) t (h.here ∙ e)

  pub few_bytes : p.token < length text
  few_bytes = let less = step.0 in omega (arith, less, few_tokens text)

  pub next : q.at ≤ length text → q.token ≡ p.token + 1 → IsPosition text q
  next within one = record {
    within = within;
    here = let two : q.token ≡ suc p.token = omega arith in ap (λ k. drop k (tokens text)) two ∙ step.1;
  }

  pub token_here : slice_get (tokens text) p.token ≡ Some t
  token_here = step.2

-- no token is left
pub none_here : (text : List ℕ) (p : Position) → IsPosition text p → tokens_at text p.at ≡ [] → None ≡ slice_get (tokens text) p.token
none_here text p h e =
    let all = drop_nil p.token (tokens text) (h.here ∙ e) in
    sym (slice_get_past (tokens text) p.token (omega arith))

-- behind all tokens
pub past : (text : List ℕ) (i at : ℕ) → token_count text ≤ i → at ≡ length text → IsPositionOf text i (record { token = i; at = at })
past text i at all end = record {
  position = record {
    within = omega arith;
    here = at_drop_all (λ ts. ts) (tokens text) i all ∙ sym (at_drop_all (λ rest. tokens_from None at (classes_from false rest)) text at (omega arith));
  };
  number = refl;
}
