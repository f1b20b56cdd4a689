-- What each token shows of the nested lists.
use Rattle.std.proofs.Common.{◌≡◌, ℕ, zero, suc, ◌+◌, ◌<◌, length, drop, map, Option, Some, None, List, [], ◌∷◌, refl, sym, ◌∙◌, ap, subst, arith, length-drop}
use Rattle.std.specs.Prelude.{slice_get}
use Rattle.std.proofs.lemmas.List.{drop-map, drop-drop}
use Rattle.text_forms.specs.Tokens.{Kind, start, stop, word, Token, tokens, token_count, lexeme_by, letters_of, lexeme, lexemes}
use Rattle.text_forms.specs.Closing.{close_by, close_after, close_of, closings, flattened, close_at}
use Rattle.text_forms.specs.Placed.{word as placed_word, list, level, parts_at}
use Rattle.text_forms.specs.Laws.{ShowsToken, ShowsBy}

-- behind the closing token c, where j is the number of the first of these tokens
pub record IsBehind (text : List ℕ) (d j c : ℕ) (ps : List Token) : Type 0 where
  pub steps : ℕ
  pub number : c ≡ j + steps
  pub within : steps < length ps
  pub behind : (k : ℕ) → level k (drop (suc steps) (map (lexeme text) ps)) ≡ level (suc (k + d)) (map (lexeme text) ps)

behind : (text : List ℕ) (d j c : ℕ) (ps : List Token) → close_after d j ps ≡ Some c → IsBehind text d j c ps
behind text d j c [] e = cc
behind text d j c (p ∷ ps) e = by_kind p.kind refl d e (λ f e'. behind text f (j + 1) c ps e')
  where
    further : (d f : ℕ) → ((k : ℕ) → level (suc (k + f)) (map (lexeme text) ps) ≡ level (suc (k + d)) (lexeme text p ∷ map (lexeme text) ps)) → IsBehind text f (j + 1) c ps → IsBehind text d j c (p ∷ ps)
    further d f same b = record { steps = suc b.steps; number = omega arith; within = omega arith; behind = λ k. b.behind k ∙ same k }

    by_kind : (kind : Kind) → p.kind ≡ kind → (d : ℕ) → close_by kind d j (λ f. close_after f (j + 1) ps) ≡ Some c → ((f : ℕ) → close_after f (j + 1) ps ≡ Some c → IsBehind text f (j + 1) c ps) → IsBehind text d j c (p ∷ ps)
    by_kind word is d e more = further d d (λ k. subst (λ q. level (suc (k + d)) (map (lexeme text) ps) ≡ level (suc (k + d)) (lexeme_by q p.first (letters_of text p) ∷ map (lexeme text) ps)) (sym is) refl) (more d e)
    by_kind start is d e more = further d (suc d) (λ k. subst (λ q. level (suc (k + suc d)) (map (lexeme text) ps) ≡ level (suc (k + d)) (lexeme_by q p.first (letters_of text p) ∷ map (lexeme text) ps)) (sym is) (let n : k + suc d ≡ suc (k + d) = omega arith in ap (λ m. level (suc m) (map (lexeme text) ps)) n)) (more (suc d) e)
    by_kind stop is zero e more = record {
      steps = 0;
      number = let same : j ≡ c = cc in omega arith;
      within = omega arith;
      behind = λ k. subst (λ q. level k (map (lexeme text) ps) ≡ level (suc (k + 0)) (lexeme_by q p.first (letters_of text p) ∷ map (lexeme text) ps)) (sym is) (let n : k ≡ k + 0 = omega arith in ap (λ m. level m (map (lexeme text) ps)) n);
    }
    by_kind stop is (suc d) e more = further (suc d) d (λ k. subst (λ q. level (suc (k + d)) (map (lexeme text) ps) ≡ level (suc (k + suc d)) (lexeme_by q p.first (letters_of text p) ∷ map (lexeme text) ps)) (sym is) (let n : suc (k + d) ≡ k + suc d = omega arith in ap (λ m. level m (map (lexeme text) ps)) n)) (more d e)

-- a token and what comes behind it
pub drop_get : {X Y : Type 0} (f : X → Y) (xs : List X) (i : ℕ) (x : X) → slice_get xs i ≡ Some x → (i < length xs) × (drop i (map f xs) ≡ f x ∷ drop (suc i) (map f xs))
drop_get f [] i x e = cc
drop_get f (y ∷ xs) zero x e = (omega arith, let same : y ≡ x = cc in ap (λ z. f z ∷ map f xs) same)
drop_get f (y ∷ xs) (suc i) x e = let b = drop_get f xs i x e in (omega arith, b.1)

pub drop_none : {X Y : Type 0} (f : X → Y) (xs : List X) (i : ℕ) → slice_get xs i ≡ None → drop i (map f xs) ≡ []
drop_none f [] zero e = refl
drop_none f [] (suc i) e = refl
drop_none f (y ∷ xs) zero e = cc
drop_none f (y ∷ xs) (suc i) e = drop_none f xs i e

-- which token closes the list that token i opens
pub closes_get : (ps : List Token) (j i : ℕ) (p : Token) → slice_get ps i ≡ Some p → flattened (slice_get (closings j ps) i) ≡ close_of p.kind (j + i) (drop (suc i) ps)
closes_get [] j i p e = cc
closes_get (q ∷ ps) j zero p e =
    let same : q ≡ p = cc in
    let at : j ≡ j + 0 = omega arith in
    (λ k. close_of (same k).kind (at k) ps)
closes_get (q ∷ ps) j (suc i) p e =
    let at : j + 1 + i ≡ j + suc i = omega arith in
    closes_get ps (j + 1) i p e ∙ ap (λ n. close_of p.kind n (drop (suc i) ps)) at

-- what token i shows
module _ (text : List ℕ) (i : ℕ) (p : Token) (here : slice_get (tokens text) i ≡ Some p) where
  first : (kind : Kind) → p.kind ≡ kind → parts_at text i ≡ level 0 (lexeme_by kind p.first (letters_of text p) ∷ drop (suc i) (lexemes text))
  first kind is = ap (level 0) ((drop_get (lexeme text) (tokens text) i p here).1) ∙ ap (λ q. level 0 (lexeme_by q p.first (letters_of text p) ∷ drop (suc i) (lexemes text))) is

  shows-word : p.kind ≡ word → parts_at text i ≡ placed_word p.first (letters_of text p) (parts_at text (i + 1))
  shows-word is = first word is ∙ (let n : suc i ≡ i + 1 = omega arith in ap (λ k. placed_word p.first (letters_of text p) (level 0 (drop k (lexemes text)))) n)

  shows-list : p.kind ≡ start → (c : ℕ) → close_at text i ≡ Some c → (parts_at text i ≡ list p.first (parts_at text (i + 1)) (parts_at text (c + 1))) × (i < c) × (c < token_count text)
  shows-list is c e =
      let n : suc i ≡ i + 1 = omega arith in
      let n0 : 0 + i ≡ i = omega arith in
      let after : close_after 0 (i + 1) (drop (suc i) (tokens text)) ≡ Some c = ap (λ q. close_of q i (drop (suc i) (tokens text))) (sym is) ∙ sym (closes_get (tokens text) 0 i p here ∙ ap (λ q. close_of p.kind q (drop (suc i) (tokens text))) n0) ∙ e in
      let b = behind text 0 (i + 1) c (drop (suc i) (tokens text)) after in
      let few = length-drop (suc i) (tokens text) in
      let step : drop (suc b.steps) (map (lexeme text) (drop (suc i) (tokens text))) ≡ drop (c + 1) (lexemes text) =
      ap (drop (suc b.steps)) (sym (drop-map (lexeme text) (suc i) (tokens text))) ∙ drop-drop (suc b.steps) (suc i) (lexemes text) ∙ (let m : suc i + suc b.steps ≡ c + 1 = omega (arith, b.number) in ap (λ m. drop m (lexemes text)) m)
      in
      let outer : parts_at text (c + 1) ≡ level 1 (drop (suc i) (lexemes text)) = ap (level 0) (sym step) ∙ b.behind 0 ∙ ap (level 1) (sym (drop-map (lexeme text) (suc i) (tokens text))) in
      let within = b.within in
      let number = b.number in
      (first start is ∙ (λ k. list p.first (level 0 (drop (n k) (lexemes text))) (sym outer k)), omega arith, omega arith)

  shows : (kind : Kind) → p.kind ≡ kind → ShowsToken text i p kind
  shows start is = shows-list is
  shows stop is = first stop is
  shows word is = shows-word is

pub shown : (text : List ℕ) (i : ℕ) → ShowsBy text i (slice_get (tokens text) i)
shown text i = go (slice_get (tokens text) i) refl
  where
    go : (o : Option Token) → slice_get (tokens text) i ≡ o → ShowsBy text i o
    go None e = ap (level 0) (drop_none (lexeme text) (tokens text) i e)
    go (Some p) e = shows text i p e p.kind refl
