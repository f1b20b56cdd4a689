-- The classes of a text, byte by byte: in a comment and outside.
use Rattle.std.proofs.Common.{ℕ, zero, suc, ◌+◌, ◌<◌, ◌≤◌, ◌≡◌, ◌==◌, ◌⊎◌, inl, inr, Bool, true, false, not, Some, List, [], ◌∷◌, refl, ap, sym, subst, ◌∙◌, arith, true≢false}
use Rattle.std.specs.Prelude.{slice_get}
use Rattle.std.proofs.lemmas.Bool.{cases_lt}
use Rattle.text_forms.specs.Bytes.{blank, class_of, comment_after, classes_from}
use Rattle.text_forms.specs.Comments.{IsInComment, IsClassed}

equal_by : (a b : ℕ) → (a == b) ≡ true → a ≡ b
equal_by a b e = grind (arith, e)

not_equal : (b : ℕ) → (b ≡ 10 → ⊥) → not (b == 10) ≡ true
not_equal b n = go (b == 10) refl
  where
    go : (t : Bool) → (b == 10) ≡ t → not t ≡ true
    go true e = absurd (n (equal_by b 10 e))
    go false e = refl

other_than : (b : ℕ) → not (b == 10) ≡ true → b ≡ 10 → ⊥
other_than b e f = true≢false (sym e ∙ ap (λ z. not (z == 10)) f)

module _ (text : List ℕ) where
  -- whether a comment goes on at a place
  abbrev Tells : Bool → ℕ → Type 0
  Tells flag at = (flag ≡ true → IsInComment text at) × (IsInComment text at → flag ≡ true)

  goes_on : (flag : Bool) (at b : ℕ) → slice_get text at ≡ Some b → Tells flag at → comment_after flag b ≡ true → IsInComment text (at + 1)
  goes_on true at b h t e = let (s, l, semicolon, none) = t.0 refl in (s, omega arith, semicolon, λ k f g. within s none k f g (cases_lt k at))
    where
      within : (s : ℕ) → ((k : ℕ) → s ≤ k → k < at → slice_get text k ≡ Some 10 → ⊥) → (k : ℕ) → s ≤ k → k < at + 1 → (k < at) ⊎ (at ≤ k) → slice_get text k ≡ Some 10 → ⊥
      within s none k f g (inl m) = none k f m
      within s none k f g (inr m) = λ i. (let z : k ≡ at = omega arith in let j = subst (λ y. slice_get text y ≡ Some 10) z i in let q : b ≡ 10 = cc in other_than b e q)
  goes_on false at b h t e =
      let q = equal_by b 59 e in
      (at, omega arith, subst (λ y. slice_get text at ≡ Some y) q h, λ k f g i. (let z : k ≡ at = omega arith in let j = subst (λ y. slice_get text y ≡ Some 10) z i in let p : b ≡ 10 = cc in let r : 59 ≡ 10 = sym q ∙ p in omega arith))

  went_on : (flag : Bool) (at b : ℕ) → slice_get text at ≡ Some b → Tells flag at → IsInComment text (at + 1) → comment_after flag b ≡ true
  went_on flag at b h t (s, l, semicolon, none) = go (cases_lt s at)
    where
      after : (flag : Bool) → b ≡ 59 → comment_after flag b ≡ true
      after true e = ap (λ z. not (z == 10)) e
      after false e = ap (λ z. z == 59) e

      stays : (flag : Bool) → flag ≡ true → comment_after flag b ≡ true
      stays true e = not_equal b (λ q. none at (omega arith) (omega arith) (subst (λ y. slice_get text at ≡ Some y) q h))
      stays false e = absurd (true≢false (sym e))

      go : (s < at) ⊎ (at ≤ s) → comment_after flag b ≡ true
      go (inl m) = stays flag (t.1 (s, m, semicolon, λ k f g. none k f (omega arith)))
      go (inr m) = let z : s ≡ at = omega arith in let j = subst (λ y. slice_get text y ≡ Some 59) z semicolon in let q : b ≡ 59 = cc in after flag q

  -- these bytes are those from a place on
  abbrev Left : ℕ → List ℕ → Type 0
  Left at bs = (k : ℕ) → slice_get text (at + k) ≡ slice_get bs k

  abbrev ClassedIn : Bool → List ℕ → ℕ → ℕ → ℕ → Type 0
  ClassedIn flag bs i at b = (IsInComment text at → slice_get (classes_from flag bs) i ≡ Some blank) × ((IsInComment text at → ⊥) → slice_get (classes_from flag bs) i ≡ Some (class_of b))

  first_classed : (flag : Bool) (at b : ℕ) (bs : List ℕ) → Tells flag at → ClassedIn flag (b ∷ bs) 0 at b
  first_classed true at b bs t = (λ c. refl, λ n. absurd (n (t.0 refl)))
  first_classed false at b bs t = (λ c. absurd (true≢false (sym (t.1 c))), λ n. refl)

  classed_from : (flag : Bool) (at : ℕ) (bs : List ℕ) → Left at bs → Tells flag at → (i b : ℕ) → slice_get bs i ≡ Some b → ClassedIn flag bs i (at + i) b
  classed_from flag at [] r t i b e = absurd (cc)
  classed_from flag at (a ∷ bs) r t zero b e =
      let s : a ≡ b = cc in let z : at ≡ at + 0 = omega arith in
      subst (λ y. ClassedIn flag (a ∷ bs) 0 y b) z (subst (λ y. ClassedIn flag (a ∷ bs) 0 at y) s (first_classed flag at a bs t))
  classed_from flag at (a ∷ bs) r t (suc i) b e =
      let z : (at + 1) + i ≡ at + suc i = omega arith in
      let y : at + 0 ≡ at = omega arith in
      let h = subst (λ p. slice_get text p ≡ Some a) y (r 0) in
      let left : Left (at + 1) bs = λ k. (let q : at + suc k ≡ (at + 1) + k = omega arith in subst (λ p. slice_get text p ≡ slice_get bs k) q (r (suc k))) in
      subst (λ p. ClassedIn flag (a ∷ bs) (suc i) p b) z (classed_from (comment_after flag a) (at + 1) bs left (goes_on flag at a h t, went_on flag at a h t) i b e)

  pub classed : (k b : ℕ) → slice_get text k ≡ Some b → IsClassed text k b
  classed k b e =
      let z : 0 + k ≡ k = omega arith in
      subst (λ p. ClassedIn false text k p b) z (classed_from false 0 text (λ j. (let q : j ≡ 0 + j = omega arith in subst (λ p. slice_get text p ≡ slice_get text j) q refl)) (λ f. absurd (true≢false (sym f)), λ c. absurd (let l = c.1 in omega arith)) k b e)
