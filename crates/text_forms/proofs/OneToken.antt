-- Each letter and each parenthesis lies in one token.
use Rattle.std.proofs.Common.{ℕ, zero, suc, ◌+◌, ◌<◌, ◌≤◌, ◌≡◌, ◌⊎◌, inl, inr, Option, Some, None, List, [], ◌∷◌, ◌++◌, length, Contains, refl, ap, sym, subst, ◌∙◌, arith}
use Rattle.std.specs.Prelude.{slice_get}
use Rattle.std.proofs.lemmas.Bool.{cases_lt}
use Rattle.std.proofs.lemmas.Option.{slice_get-get_or}
use Rattle.std.proofs.lemmas.List.Elements.{Contains-append_left, Contains-append_right, Contains-push}
use Rattle.text_forms.specs.Bytes.{Class, blank, opening, closing, letter, bad, classes}
use Rattle.text_forms.specs.Tokens.{Kind, start, stop, word, Token, token, ended, begun, made, under_way_after, tokens_from, tokens}
use Rattle.text_forms.specs.Laws.{StandInOrder}
use Rattle.text_forms.proofs.Lists.{in_order}
use Rattle.text_forms.specs.LongestRuns.{IsAt, HasByte, LiesInOne}
use Rattle.text_forms.proofs.EachToken.{Rest, whole, here, next, past}

-- tokens in order begin behind the first place
begins : (from : ℕ) (ts : List Token) (to : ℕ) → StandInOrder from ts to → (i : ℕ) (t : Token) → slice_get ts i ≡ Some t → from ≤ t.first
begins from [] to o i t e = cc
begins from (x ∷ ts) to o zero t e = let s : x ≡ t = cc in subst (λ (z : Token). from ≤ z.first) s o.0
begins from (x ∷ ts) to o (suc i) t e = let l = begins x.behind ts to o.2 i t e in let f = o.0 in let g = o.1 in omega arith

-- and no two have the same byte
one_place : (from : ℕ) (ts : List Token) (to : ℕ) → StandInOrder from ts to → (k i j : ℕ) (t u : Token) → slice_get ts i ≡ Some t → slice_get ts j ≡ Some u → HasByte t k → HasByte u k → j ≡ i
one_place from [] to o k i j t u e f h g = absurd (cc)
one_place from (x ∷ ts) to o k zero zero t u e f h g = refl
one_place from (x ∷ ts) to o k (suc i) (suc j) t u e f h g = ap suc (one_place x.behind ts to o.2 k i j t u e f h g)
one_place from (x ∷ ts) to o k zero (suc j) t u e f h g =
    let s : t ≡ x = cc in let l = begins x.behind ts to o.2 j u f in let m = subst (λ (z : Token). HasByte z k) s h in
    absurd (let a = m.1 in let b = g.0 in omega arith)
one_place from (x ∷ ts) to o k (suc i) zero t u e f h g =
    let s : u ≡ x = cc in let l = begins x.behind ts to o.2 i t e in let m = subst (λ (z : Token). HasByte z k) s g in
    absurd (let a = m.1 in let b = h.0 in omega arith)

module _ (text : List ℕ) where
  in_one : (k : ℕ) (kind : Kind) (t : Token) → Contains (tokens text) t → t.kind ≡ kind → HasByte t k → LiesInOne text k kind
  in_one k kind t c e h =
      let s : slice_get (tokens text) c.0 ≡ Some t = slice_get-get_or (tokens text) c.0 t c.1 ∙ ap Some c.2 in
      record { number = c.0; token = t; stands = s; is = e; has = h; alone = λ i u f g. one_place 0 (tokens text) (length text) (in_order text) k c.0 i t u s f h g }

  -- a byte of the class makes a token of the kind
  abbrev Makes : Class → Kind → Type 0
  Makes c kind = (u : Option ℕ) (at : ℕ) → Contains (made u at c) (token kind at (at + 1))

  found : (c : Class) (kind : Kind) → Makes c kind → (u : Option ℕ) (at : ℕ) (cs : List Class) → Rest text at cs → (k : ℕ) → at ≤ k → IsAt text k c → Contains (tokens_from u at cs) (token kind k (k + 1))
  found c kind m u at [] r k l e = absurd (past text at r k l c e)
  found c kind m u at (b ∷ cs) r k l e = go (λ n. found c kind m (under_way_after u at b) (at + 1) cs (next text at b cs r) k n e) (cases_lt at k)
    where
      go : (at + 1 ≤ k → Contains (tokens_from (under_way_after u at b) (at + 1) cs) (token kind k (k + 1))) → (at < k) ⊎ (k ≤ at) → Contains (made u at b ++ tokens_from (under_way_after u at b) (at + 1) cs) (token kind k (k + 1))
      go on (inl n) = Contains-append_right (made u at b) (tokens_from (under_way_after u at b) (at + 1) cs) (token kind k (k + 1)) (on (omega arith))
      go on (inr n) =
          let s : at ≡ k = omega arith in
          let h = here text at b cs r in
          let g = subst (λ z. IsAt text z b) s h in
          let same : c ≡ b = cc in
          Contains-append_left (made u at b) (tokens_from (under_way_after u at b) (at + 1) cs) (token kind k (k + 1)) (subst (λ z. Contains (made u at b) (token kind z (z + 1))) s (subst (λ z. Contains (made u at z) (token kind at (at + 1))) same (m u at)))

  pub in_one_start : (k : ℕ) → IsAt text k opening → LiesInOne text k start
  in_one_start k e = in_one k start (token start k (k + 1)) (found opening start (λ u at. Contains-push (ended u at) (token start at (at + 1))) None 0 (classes text) (whole text) k (omega arith) e) refl (omega arith, omega arith)

  pub in_one_stop : (k : ℕ) → IsAt text k closing → LiesInOne text k stop
  in_one_stop k e = in_one k stop (token stop k (k + 1)) (found closing stop (λ u at. Contains-push (ended u at) (token stop at (at + 1))) None 0 (classes text) (whole text) k (omega arith) e) refl (omega arith, omega arith)

  -- a word of these tokens has the byte
  abbrev Covers : ℕ → List Token → Type 0
  Covers k ts = (t : Token) × Contains ts t × (t.kind ≡ word) × HasByte t k

  covers-left : (k : ℕ) (xs ys : List Token) → Covers k xs → Covers k (xs ++ ys)
  covers-left k xs ys c = (c.0, Contains-append_left xs ys c.0 c.1, c.2, c.3)

  covers-right : (k : ℕ) (xs ys : List Token) → Covers k ys → Covers k (xs ++ ys)
  covers-right k xs ys c = (c.0, Contains-append_right xs ys c.0 c.1, c.2, c.3)

  -- where the word that is under way began, or is to begin
  abbrev since : Option ℕ → ℕ → ℕ
  since None at = at
  since (Some first) at = first

  since-begun : (u : Option ℕ) (at : ℕ) → since (begun u at) (at + 1) ≡ since u at
  since-begun None at = refl
  since-begun (Some first) at = refl

  ended_covers : (u : Option ℕ) (at k : ℕ) → since u at ≤ k → k < at → Covers k (ended u at)
  ended_covers None at k l m = absurd (omega arith)
  ended_covers (Some first) at k l m = (token word first at, (0, omega arith, refl), refl, (l, m))

  made_covers : (u : Option ℕ) (at k : ℕ) (c : Class) → (c ≡ letter → ⊥) → since u at ≤ k → k < at → Covers k (made u at c)
  made_covers u at k letter n l m = absurd (n refl)
  made_covers u at k blank n l m = ended_covers u at k l m
  made_covers u at k bad n l m = ended_covers u at k l m
  made_covers u at k opening n l m = covers-left k (ended u at) (token start at (at + 1) ∷ []) (ended_covers u at k l m)
  made_covers u at k closing n l m = covers-left k (ended u at) (token stop at (at + 1) ∷ []) (ended_covers u at k l m)

  -- at a byte that is no letter
  covered_on : (u : Option ℕ) (at : ℕ) (c : Class) (cs : List Class) → (c ≡ letter → ⊥) → Rest text at (c ∷ cs) → (k : ℕ) → IsAt text k letter → since u at ≤ k
      → ((j : ℕ) → IsAt text j letter → at + 1 ≤ j → Covers j (tokens_from None (at + 1) cs)) → Covers k (made u at c ++ tokens_from None (at + 1) cs)
  covered_on u at c cs n r k e l on = go (cases_lt k at)
    where
      go : (k < at) ⊎ (at ≤ k) → Covers k (made u at c ++ tokens_from None (at + 1) cs)
      go (inl m) = covers-left k (made u at c) (tokens_from None (at + 1) cs) (made_covers u at k c n l m)
      go (inr m) = at_or_on (cases_lt at k)
        where
          at_or_on : (at < k) ⊎ (k ≤ at) → Covers k (made u at c ++ tokens_from None (at + 1) cs)
          at_or_on (inl h) = covers-right k (made u at c) (tokens_from None (at + 1) cs) (on k e (omega arith))
          at_or_on (inr h) = let s : at ≡ k = omega arith in let g = subst (λ z. IsAt text z c) s (here text at c cs r) in absurd (n (let same : c ≡ letter = cc in same))

  covered : (u : Option ℕ) (at : ℕ) (cs : List Class) → Rest text at cs → (k : ℕ) → IsAt text k letter → since u at ≤ k → Covers k (tokens_from u at cs)
  covered u at [] r k e l = go (cases_lt k at)
    where
      go : (k < at) ⊎ (at ≤ k) → Covers k (ended u at)
      go (inl m) = ended_covers u at k l m
      go (inr m) = absurd (past text at r k m letter e)
  covered u at (letter ∷ cs) r k e l = covered (begun u at) (at + 1) cs (next text at letter cs r) k e (subst (λ z. z ≤ k) (sym (since-begun u at)) l)
  covered u at (blank ∷ cs) r k e l = covered_on u at blank cs (λ f. cc) r k e l (λ j f m. covered None (at + 1) cs (next text at blank cs r) j f m)
  covered u at (bad ∷ cs) r k e l = covered_on u at bad cs (λ f. cc) r k e l (λ j f m. covered None (at + 1) cs (next text at bad cs r) j f m)
  covered u at (opening ∷ cs) r k e l = covered_on u at opening cs (λ f. cc) r k e l (λ j f m. covered None (at + 1) cs (next text at opening cs r) j f m)
  covered u at (closing ∷ cs) r k e l = covered_on u at closing cs (λ f. cc) r k e l (λ j f m. covered None (at + 1) cs (next text at closing cs r) j f m)

  pub in_one_word : (k : ℕ) → IsAt text k letter → LiesInOne text k word
  in_one_word k e = let c = covered None 0 (classes text) (whole text) k e (omega arith) in in_one k word c.0 c.1 c.2 c.3
