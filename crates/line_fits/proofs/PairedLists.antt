-- Two lists that go together, by their places.
use Rattle.std.proofs.Common.{ℕ, zero, suc, ◌≡◌, ◌+◌, List, [], ◌∷◌, ◌++◌, take, slice_get, Some, refl, ap, sym, subst, ◌∙◌, arith}
use Rattle.plan_texts.specs.Together.{Together}
use Rattle.plan_texts.proofs.Together.{together-push}

take_at : {X : Type 0} (xs : List X) (k : ℕ) (x : X) → slice_get xs k ≡ Some x → take (k + 1) xs ≡ take k xs ++ x ∷ []
take_at {X = X} xs k x e = ap (λ n. take n xs) (let f : k + 1 ≡ suc k = omega arith in f) ∙ go xs k e
  where
    go : (xs : List X) (k : ℕ) → slice_get xs k ≡ Some x → take (suc k) xs ≡ take k xs ++ x ∷ []
    go [] k e = absurd cc
    go (y ∷ ys) zero e = let f : y ≡ x = cc in ap (λ z. z ∷ []) f
    go (y ∷ ys) (suc k) e = ap (λ zs. y ∷ zs) (go ys k e)

module _ {X Y : Type 0} (R : X → Y → Type 0) where
  pub from_left : (xs : List X) (ys : List Y) → Together R xs ys → (k : ℕ) (x : X) → slice_get xs k ≡ Some x
      → (y : Y) × (slice_get ys k ≡ Some y) × R x y
  from_left [] [] h k x e = absurd cc
  from_left [] (v ∷ ys) h k x e = absurd h
  from_left (u ∷ xs) [] h k x e = absurd h
  from_left (u ∷ xs) (v ∷ ys) h zero x e = (v, refl, subst (λ z. R z v) (let f : u ≡ x = cc in f) h.0)
  from_left (u ∷ xs) (v ∷ ys) h (suc k) x e = from_left xs ys h.1 k x e

  pub from_right : (xs : List X) (ys : List Y) → Together R xs ys → (k : ℕ) (y : Y) → slice_get ys k ≡ Some y
      → (x : X) × (slice_get xs k ≡ Some x) × R x y
  from_right [] [] h k y e = absurd cc
  from_right [] (v ∷ ys) h k y e = absurd h
  from_right (u ∷ xs) [] h k y e = absurd h
  from_right (u ∷ xs) (v ∷ ys) h zero y e = (u, refl, subst (R u) (let f : v ≡ y = cc in f) h.0)
  from_right (u ∷ xs) (v ∷ ys) h (suc k) y e = from_right xs ys h.1 k y e

  -- one more of the list
  pub pair_next : (xs : List X) (ys : List Y) (k : ℕ) (x : X) (y : Y) → Together R (take k xs) ys → slice_get xs k ≡ Some x → R x y
      → Together R (take (k + 1) xs) (ys ++ y ∷ [])
  pair_next xs ys k x y h e r = subst (λ zs. Together R zs (ys ++ y ∷ [])) (sym (take_at xs k x e)) (together-push R (take k xs) ys x y h r)

  -- what each item of the first list goes with is one alone
  pub one_right : ((x : X) (y z : Y) → R x y → R x z → y ≡ z) → (xs : List X) (ys zs : List Y) → Together R xs ys → Together R xs zs
      → ys ≡ zs
  one_right once [] [] [] h k = refl
  one_right once [] [] (z ∷ zs) h k = absurd k
  one_right once [] (y ∷ ys) zs h k = absurd h
  one_right once (x ∷ xs) [] zs h k = absurd h
  one_right once (x ∷ xs) (y ∷ ys) [] h k = absurd k
  one_right once (x ∷ xs) (y ∷ ys) (z ∷ zs) h k =
      let e = once x y z h.0 k.0 in
      let f = one_right once xs ys zs h.1 k.1 in
      λ i. e i ∷ f i
