-- Lists made of another by a function that is told each item's place, from a number on: of all items, and of those alone that pass a test.
use Rattle.std.proofs.Common.{ℕ, zero, suc, ◌≡◌, ◌+◌, Bool, true, false, cond, List, [], ◌∷◌, filter, take, length, slice_get, Some, refl, ap, sym, subst, ◌∙◌, arith}
use Rattle.plan_texts.specs.Together.{Together}

module _ {A B : Type 0} (f : ℕ → A → B) where
  abbrev pub numbered : ℕ → List A → List B
  numbered m [] = []
  numbered m (x ∷ xs) = f m x ∷ numbered (suc m) xs

  on : (m j : ℕ) (x : A) → f (suc m + j) x ≡ f (m + suc j) x
  on m j x = let e : suc m + j ≡ m + suc j = omega arith in ap (λ z. f z x) e

  here : (m : ℕ) (x : A) → f m x ≡ f (m + 0) x
  here m x = let e : m ≡ m + 0 = omega arith in ap (λ z. f z x) e

  pub length-numbered : (m : ℕ) (xs : List A) → length (numbered m xs) ≡ length xs
  length-numbered m [] = refl
  length-numbered m (x ∷ xs) = ap suc (length-numbered (suc m) xs)

  pub numbered_at : (m j : ℕ) (xs : List A) (x : A) → slice_get xs j ≡ Some x → slice_get (numbered m xs) j ≡ Some (f (m + j) x)
  numbered_at m j [] x e = absurd cc
  numbered_at m zero (y ∷ xs) x e = let g : y ≡ x = cc in ap Some (ap (f m) g ∙ here m x)
  numbered_at m (suc j) (y ∷ xs) x e = numbered_at (suc m) j xs x e ∙ ap Some (on m j x)

  pub numbered_cases : (m j : ℕ) (xs : List A) (y : B) → slice_get (numbered m xs) j ≡ Some y → (x : A) × (slice_get xs j ≡ Some x) × (y ≡ f (m + j) x)
  numbered_cases m j [] y e = absurd cc
  numbered_cases m zero (x ∷ xs) y e = (x, refl, (let g : f m x ≡ y = cc in sym g) ∙ here m x)
  numbered_cases m (suc j) (x ∷ xs) y e = let (z, g, h) = numbered_cases (suc m) j xs y e in (z, g, h ∙ on m j z)

  module _ (test : A → Bool) where
    abbrev pub passing : ℕ → List A → List B
    passing m [] = []
    passing m (x ∷ xs) = cond (test x) (f m x ∷ passing (suc m) xs) (passing (suc m) xs)

    pub length-passing : (m : ℕ) (xs : List A) → length (passing m xs) ≡ length (filter test xs)
    length-passing m [] = refl
    length-passing m (x ∷ xs) = go (test x) (length-passing (suc m) xs)
      where
        go : (t : Bool) → length (passing (suc m) xs) ≡ length (filter test xs) → length (cond t (f m x ∷ passing (suc m) xs) (passing (suc m) xs)) ≡ length (cond t (x ∷ filter test xs) (filter test xs))
        go true h = ap suc h
        go false h = h

    pub passing_at : (m j : ℕ) (xs : List A) (x : A) → slice_get xs j ≡ Some x → test x ≡ true → slice_get (passing m xs) (length (filter test (take j xs))) ≡ Some (f (m + j) x)
    passing_at m j [] x e t = absurd cc
    passing_at m zero (y ∷ xs) x e t =
        let g : y ≡ x = cc in
        ap (λ z. slice_get (cond z (f m y ∷ passing (suc m) xs) (passing (suc m) xs)) 0) (ap test g ∙ t) ∙ ap Some (ap (f m) g ∙ here m x)
    passing_at m (suc j) (y ∷ xs) x e t = go (test y) (passing_at (suc m) j xs x e t ∙ ap Some (on m j x))
      where
        go : (q : Bool) → slice_get (passing (suc m) xs) (length (filter test (take j xs))) ≡ Some (f (m + suc j) x)
            → slice_get (cond q (f m y ∷ passing (suc m) xs) (passing (suc m) xs)) (length (cond q (y ∷ filter test (take j xs)) (filter test (take j xs)))) ≡ Some (f (m + suc j) x)
        go true h = h
        go false h = h

    -- it is of an item that passes
    abbrev pub IsPassing : ℕ → List A → B → Type 0
    IsPassing m xs y = (j : ℕ) × (x : A) × (slice_get xs j ≡ Some x) × (test x ≡ true) × (y ≡ f (m + j) x)

    pub passing_cases : (m i : ℕ) (xs : List A) (y : B) → slice_get (passing m xs) i ≡ Some y → IsPassing m xs y
    passing_cases m i [] y e = absurd cc
    passing_cases m i (x ∷ xs) y e = go (test x) refl i (λ k. passing_cases (suc m) k xs y) e
      where
        later : IsPassing (suc m) xs y → IsPassing m (x ∷ xs) y
        later (j, z, g, t, h) = (suc j, z, g, t, h ∙ on m j z)

        go : (q : Bool) → test x ≡ q → (i : ℕ) → ((k : ℕ) → slice_get (passing (suc m) xs) k ≡ Some y → IsPassing (suc m) xs y) → slice_get (cond q (f m x ∷ passing (suc m) xs) (passing (suc m) xs)) i ≡ Some y → IsPassing m (x ∷ xs) y
        go true t zero rest g = (0, x, refl, t, (let h : f m x ≡ y = cc in sym h) ∙ here m x)
        go true t (suc k) rest g = later (rest k g)
        go false t k rest g = later (rest k g)

-- two lists made of one go together where what is made at each place does
module _ {A B C : Type 0} (R : B → C → Type 0) (f : ℕ → A → B) (g : ℕ → A → C) where
  abbrev Goes : ℕ → List A → Type 0
  Goes m xs = (j : ℕ) (x : A) → slice_get xs j ≡ Some x → R (f (m + j) x) (g (m + j) x)

  next : (m : ℕ) (y : A) (xs : List A) → Goes m (y ∷ xs) → Goes (suc m) xs
  next m y xs h j x e = let n : m + suc j ≡ suc m + j = omega arith in subst (λ k. R (f k x) (g k x)) n (h (suc j) x e)

  now : (m : ℕ) (y : A) (xs : List A) → Goes m (y ∷ xs) → R (f m y) (g m y)
  now m y xs h = let n : m + 0 ≡ m = omega arith in subst (λ k. R (f k y) (g k y)) n (h 0 y refl)

  together-numbered : (m : ℕ) (xs : List A) → ((j : ℕ) (x : A) → slice_get xs j ≡ Some x → R (f (m + j) x) (g (m + j) x)) → Together R (numbered f m xs) (numbered g m xs)
  together-numbered m [] h = tt
  together-numbered m (y ∷ xs) h = (now m y xs h, together-numbered (suc m) xs (next m y xs h))

  pub together-from_zero : (xs : List A) → ((j : ℕ) (x : A) → slice_get xs j ≡ Some x → R (f j x) (g j x)) → Together R (numbered f 0 xs) (numbered g 0 xs)
  together-from_zero xs h = together-numbered 0 xs (λ j x e. let n : j ≡ 0 + j = omega arith in subst (λ k. R (f k x) (g k x)) n (h j x e))

  module _ (test : A → Bool) where
    abbrev Passes : ℕ → List A → Type 0
    Passes m xs = (j : ℕ) (x : A) → slice_get xs j ≡ Some x → test x ≡ true → R (f (m + j) x) (g (m + j) x)

    together-passing : (m : ℕ) (xs : List A) → ((j : ℕ) (x : A) → slice_get xs j ≡ Some x → test x ≡ true → R (f (m + j) x) (g (m + j) x)) → Together R (passing f test m xs) (passing g test m xs)
    together-passing m [] h = tt
    together-passing m (y ∷ xs) h = go (test y) refl (together-passing (suc m) xs rest)
      where
        rest : Passes (suc m) xs
        rest j x e t = let n : m + suc j ≡ suc m + j = omega arith in subst (λ k. R (f k x) (g k x)) n (h (suc j) x e t)

        go : (q : Bool) → test y ≡ q → Together R (passing f test (suc m) xs) (passing g test (suc m) xs) → Together R (cond q (f m y ∷ passing f test (suc m) xs) (passing f test (suc m) xs)) (cond q (g m y ∷ passing g test (suc m) xs) (passing g test (suc m) xs))
        go true t r = (let n : m + 0 ≡ m = omega arith in subst (λ k. R (f k y) (g k y)) n (h 0 y refl t), r)
        go false t r = r

    pub passing-from_zero : (xs : List A) → ((j : ℕ) (x : A) → slice_get xs j ≡ Some x → test x ≡ true → R (f j x) (g j x)) → Together R (passing f test 0 xs) (passing g test 0 xs)
    passing-from_zero xs h = together-passing 0 xs (λ j x e t. let n : j ≡ 0 + j = omega arith in subst (λ k. R (f k x) (g k x)) n (h j x e t))
