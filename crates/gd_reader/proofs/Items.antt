-- What a token shows.
use Rattle.std.proofs.Common.{◌≡◌, ℕ, zero, suc, ◌+◌, ◌<◌, ◌≤◌, ◌^◌, length, drop, map, Option, Some, None, List, [], ◌∷◌, refl, sym, ◌∙◌, ap, subst, arith}
use Rattle.std.specs.Prelude.{slice_get, slice_range, IsSome, ◌↔◌}
use Rattle.std.proofs.lemmas.List.{drop-map}
use Rattle.htn_base.specs.Words.{folded}
use Rattle.text_forms.specs.declared.sexpr_text.tokens.Kind.TheVariants.{Start, Stop, Word}
use Rattle.text_forms.specs.declared.sexpr_text.tokens.Token.{Token as Read}
use Rattle.text_forms.specs.declared.sexpr_text.positions.Position.{Position}
use Rattle.text_forms.specs.sexpr_text.Positions.{IsPositionOf}
use Rattle.text_forms.specs.sexpr_text.Seen.{kind_seen, token_seen}
use Rattle.text_forms.specs.Closing.{close_of, closings, flattened, close_at, OpensBy, OpensList}
use Rattle.text_forms.specs.Laws.{ShowsToken, ShowsBy}
use Rattle.text_forms.specs.Placed.{cut, close, word as placed_word, level, IsWhole, parts_at}
use Rattle.text_forms.specs.Tokens.{Kind, Token, tokens, token_count, lexeme_by, letters_of, lexeme, lexemes}
use Rattle.text_forms.specs.Tokens as kinds
use Rattle.text_forms.proofs.Shown.{shown, drop_get, closes_get}
use Rattle.gd_reader.specs.declared.cursor.Item.TheVariants as items
use Rattle.gd_reader.specs.declared.positions.ItemFrom.TheVariants as items_from
use Rattle.gd_reader.specs.declared.positions.WordOrEnd.{WordOrEnd}
use Rattle.gd_reader.specs.declared.positions.WordOrEnd.TheVariants as met
use Rattle.gd_reader.specs.Shown.{IsList, Shows}
use Rattle.gd_reader.specs.ShownFrom.{ShowsFrom, word_met}
use Rattle.gd_reader.proofs.Adding.{says}
use Rattle.gd_reader.proofs.Passing.{whole_levels}

closes_none : (ps : List Token) (j i : ℕ) → slice_get ps i ≡ None → flattened (slice_get (closings j ps) i) ≡ None
closes_none [] j i e = refl
closes_none (q ∷ ps) j zero e = cc
closes_none (q ∷ ps) j (suc i) e = closes_none ps (j + 1) i e

-- up to the token that closes a list there is no end of the tokens in it
pub whole_inside : (text : List ℕ) (i c : ℕ) → close_at text i ≡ Some c → IsWhole (parts_at text (i + 1))
whole_inside text i c e = go (slice_get (tokens text) i) refl
  where
    by_kind : (kind : Kind) → close_of kind (0 + i) (drop (suc i) (tokens text)) ≡ Some c → IsWhole (level 0 (map (lexeme text) (drop (suc i) (tokens text))))
    by_kind kinds.start h = whole_levels text (drop (suc i) (tokens text)) 0 0 (0 + i + 1) c (omega arith) h
    by_kind kinds.stop h = cc
    by_kind kinds.word h = cc

    go : (o : Option Token) → slice_get (tokens text) i ≡ o → IsWhole (parts_at text (i + 1))
    go None h = let none = closes_none (tokens text) 0 i h in cc
    go (Some p) h =
        let n : suc i ≡ i + 1 = omega arith in
        subst (λ k. IsWhole (parts_at text k)) n
        (subst (λ ls. IsWhole (level 0 ls)) (sym (drop-map (lexeme text) (suc i) (tokens text)))
        (by_kind p.kind (sym (closes_get (tokens text) 0 i p h) ∙ e)))

past : {X : Type 0} (xs : List X) (i : ℕ) → length xs ≤ i → slice_get xs i ≡ None
past [] i h = refl
past (x ∷ xs) zero h = absurd (omega arith)
past (x ∷ xs) (suc i) h = past xs i (omega arith)

behind_last : {X : Type 0} (xs : List X) (i : ℕ) → slice_get xs i ≡ None → length xs ≤ i
behind_last [] i h = omega arith
behind_last (x ∷ xs) zero h = cc
behind_last (x ∷ xs) (suc i) h = let n = behind_last xs i h in omega arith

-- where there is no token
pub shows_past : (text : List ℕ) (i : ℕ) → token_count text ≤ i → parts_at text i ≡ cut
shows_past text i h = subst (ShowsBy text i) (past (tokens text) i h) (shown text i)

pub shows_end : (text : List ℕ) (i : ℕ) → slice_get (tokens text) i ≡ None → Shows text i items.End
shows_end text i e = (subst (ShowsBy text i) e (shown text i), behind_last (tokens text) i e)

module _ (text : List ℕ) (i : ℕ) (t : Read) (here : slice_get (tokens text) i ≡ Some (token_seen t)) where
  shows : ShowsToken text i (token_seen t) (kind_seen t.kind)
  shows = subst (ShowsBy text i) here (shown text i)

  pub within : i < token_count text
  within = (drop_get (lexeme text) (tokens text) i (token_seen t) here).0

  pub shows_close : t.kind ≡ Stop → parts_at text i ≡ close t.span.start
  shows_close is = subst (λ k. ShowsToken text i (token_seen t) (kind_seen k)) is shows

  word_parts : t.kind ≡ Word → t.word.now ≡ slice_range text t.span.start t.span.end → parts_at text i ≡ placed_word t.span.start (folded t.word.now) (parts_at text (i + 1))
  word_parts is letters =
      let s : ShowsToken text i (token_seen t) kinds.word = subst (λ k. ShowsToken text i (token_seen t) (kind_seen k)) is shows in
      subst (λ w. parts_at text i ≡ placed_word t.span.start (folded w) (parts_at text (i + 1))) (sym letters) s

  pub shows_word : t.kind ≡ Word → t.word.now ≡ slice_range text t.span.start t.span.end → token_count text < 2 ^ 32 → Shows text i (items.Word t.span.start t.word)
  shows_word is letters few =
      let parts = word_parts is letters in
      record {
        parts = parts;
        within = within;
        few = few;
        said = says text i t.span.start (folded t.word.now) (parts_at text (i + 1)) parts;
      }

  pub shows_list : t.kind ≡ Start → (c : ℕ) → close_at text i ≡ Some c → IsList text i t.span.start (i + 1) (c + 1)
  shows_list is c e =
      let s : ShowsToken text i (token_seen t) kinds.start = subst (λ k. ShowsToken text i (token_seen t) (kind_seen k)) is shows in
      let r = s c e in
      let order = r.1 in
      let few = r.2 in
      record {
        parts = r.0;
        whole = whole_inside text i c e;
        opens = omega arith;
        order = omega arith;
        within = omega arith;
        closing = c;
        closed = e;
        next = refl;
      }

  opens_list : t.kind ≡ Start → OpensList text i
  opens_list is = subst OpensBy (sym here) (ap kind_seen is)

  -- the same, where the tokens have positions
  module _ (next : Position) (h : IsPositionOf text (i + 1) next) where
    -- the lexeme of token i, and those behind it
    lexemes_here : (k : Kind) → kind_seen t.kind ≡ k
        → drop i (lexemes text) ≡ lexeme_by k t.span.start (letters_of text (token_seen t)) ∷ drop next.token (lexemes text)
    lexemes_here k is =
        let n : suc i ≡ next.token = (let number = h.number in omega arith) in
        (drop_get (lexeme text) (tokens text) i (token_seen t) here).1
        ∙ (λ j. lexeme_by (is j) t.span.start (letters_of text (token_seen t)) ∷ drop (n j) (lexemes text))

    pub shows_close_from : t.kind ≡ Stop → ShowsFrom text i (items_from.Close t.span.start next)
    shows_close_from is = record {
      parts = shows_close is;
      behind = sym (ap (level 1) (lexemes_here kinds.stop (ap kind_seen is)));
      within = within;
      position = h;
    }

    pub shows_word_from : t.kind ≡ Word → t.word.now ≡ slice_range text t.span.start t.span.end
        → ShowsFrom text i (items_from.Word t.span.start t.word next)
    shows_word_from is letters =
        let parts = word_parts is letters in
        record {
          parts = parts ∙ ap (λ k. placed_word t.span.start (folded t.word.now) (parts_at text k)) (sym h.number);
          behind = sym (ap (level 1) (lexemes_here kinds.word (ap kind_seen is)));
          within = within;
          said = says text i t.span.start (folded t.word.now) (parts_at text (i + 1)) parts;
          position = h;
        }

    pub shows_list_from : t.kind ≡ Start → ShowsFrom text i (items_from.List t.span.start next)
    shows_list_from is = record {
      parts = ap (level 0) (lexemes_here kinds.start (ap kind_seen is));
      within = within;
      position = h;
    }

  -- an opening parenthesis has a closing one
  pub never : (o : Option ℕ) → t.kind ≡ Start → o ≡ None → IsSome o ↔ OpensList text i → Shows text i items.End
  never o is e opens = let none : IsSome {T = ℕ} None = subst IsSome e (opens.1 (opens_list is)) in cc

-- what is no word is the end
pub no_word : (text : List ℕ) (x : WordOrEnd) → ((at : ℕ) (w : _) (next : Position) → x ≡ met.Word at w next → ⊥)
    → word_met text x ≡ None
no_word text (met.Word at w next) never = absurd (never at w next refl)
no_word text (met.End behind) never = refl
