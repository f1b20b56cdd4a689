-- Lists cut in two, with one more element at the end.
use Rattle.std.proofs.Common.{zero, suc, ◌≡◌, ◌⊎◌, inl, inr, List, [], ◌∷◌, ◌++◌, refl, ap, sym, subst, append_assoc, append-nil, Contains, arith}

pub one-append : {A : Type 0} (x v : A) (ts rest : List A) → x ∷ [] ≡ ts ++ v ∷ rest → (ts ≡ []) × (x ≡ v)
one-append x v [] rest e = (refl, cc)
one-append x v (t ∷ []) rest e = absurd cc
one-append x v (t ∷ s ∷ ts) rest e = absurd cc

-- a cut of a list with one more element, before an element
pub cut_push : {A : Type 0} (xs : List A) (x : A) (ts : List A) (v : A) (rest : List A) → xs ++ x ∷ [] ≡ ts ++ v ∷ rest → ((xs ≡ ts) × (x ≡ v)) ⊎ ((rest' : List A) × (xs ≡ ts ++ v ∷ rest'))
cut_push [] x ts v rest e = let h = one-append x v ts rest e in inl (sym h.0, h.1)
cut_push (y ∷ xs) x [] v rest e = inr (xs, cc)
cut_push {A = A} (y ∷ xs) x (t ∷ ts) v rest e = go (cut_push xs x ts v rest cc)
  where
    f : y ≡ t
    f = cc

    go : ((xs ≡ ts) × (x ≡ v)) ⊎ ((rest' : List A) × (xs ≡ ts ++ v ∷ rest')) → ((y ∷ xs ≡ t ∷ ts) × (x ≡ v)) ⊎ ((rest' : List A) × (y ∷ xs ≡ t ∷ (ts ++ v ∷ rest')))
    go (inl h) = inl (let a = h.0 in cc, h.1)
    go (inr (r, h)) = inr (r, cc)

pub cut_push_any : {A : Type 0} (xs : List A) (x : A) (ts rest : List A) → xs ++ x ∷ [] ≡ ts ++ rest → ((rest' : List A) × (xs ≡ ts ++ rest')) ⊎ (ts ≡ xs ++ x ∷ [])
cut_push_any xs x [] rest e = inl (xs, refl)
cut_push_any [] x (t ∷ []) rest e = inr cc
cut_push_any [] x (t ∷ s ∷ ts) rest e = absurd cc
cut_push_any {A = A} (y ∷ xs) x (t ∷ ts) rest e = go (cut_push_any xs x ts rest cc)
  where
    f : y ≡ t
    f = cc

    go : ((rest' : List A) × (xs ≡ ts ++ rest')) ⊎ (ts ≡ xs ++ x ∷ []) → ((rest' : List A) × (y ∷ xs ≡ t ∷ (ts ++ rest'))) ⊎ (t ∷ ts ≡ y ∷ (xs ++ x ∷ []))
    go (inl (r, h)) = inl (r, cc)
    go (inr h) = inr cc

-- two cuts of a list before an element: they are one, or one goes on behind the other
pub cuts : {A : Type 0} (xs : List A) (x : A) (ys zs : List A) (y : A) (ws : List A) → xs ++ x ∷ ys ≡ zs ++ y ∷ ws
    → ((xs ≡ zs) × (x ≡ y)) ⊎ (((more : List A) × (zs ≡ xs ++ x ∷ more)) ⊎ ((more : List A) × (xs ≡ zs ++ y ∷ more)))
cuts [] x ys [] y ws e = inl (refl, cc)
cuts [] x ys (z ∷ zs) y ws e = inr (inl (zs, (let f : x ≡ z = cc in ap (λ w. w ∷ zs) (sym f))))
cuts (a ∷ xs) x ys [] y ws e = inr (inr (xs, (let f : a ≡ y = cc in ap (λ w. w ∷ xs) f)))
cuts {A = A} (a ∷ xs) x ys (z ∷ zs) y ws e = go (cuts xs x ys zs y ws cc)
  where
    f : a ≡ z
    f = cc

    go : ((xs ≡ zs) × (x ≡ y)) ⊎ (((more : List A) × (zs ≡ xs ++ x ∷ more)) ⊎ ((more : List A) × (xs ≡ zs ++ y ∷ more)))
        → ((a ∷ xs ≡ z ∷ zs) × (x ≡ y)) ⊎ (((more : List A) × (z ∷ zs ≡ a ∷ (xs ++ x ∷ more))) ⊎ ((more : List A) × (a ∷ xs ≡ z ∷ (zs ++ y ∷ more))))
    go (inl h) = inl (let g = h.0 in cc, h.1)
    go (inr (inl (more, h))) = inr (inl (more, cc))
    go (inr (inr (more, h))) = inr (inr (more, cc))

-- a list is empty, or has a last element
pub last_cases : {A : Type 0} (xs : List A) → (xs ≡ []) ⊎ ((ys : List A) × (y : A) × (xs ≡ ys ++ y ∷ []))
last_cases [] = inl refl
last_cases {A = A} (x ∷ xs) = inr (go (last_cases xs))
  where
    go : (xs ≡ []) ⊎ ((ys : List A) × (y : A) × (xs ≡ ys ++ y ∷ [])) → (ys : List A) × (y : A) × (x ∷ xs ≡ ys ++ y ∷ [])
    go (inl e) = ([], x, ap (λ t. x ∷ t) e)
    go (inr (ys, y, e)) = (x ∷ ys, y, ap (λ t. x ∷ t) e)

-- what holds of no elements, and of one more at the end, holds
pub by_push : {A : Type 0} (P : List A → Type 0) → P [] → ((xs : List A) (x : A) → P xs → P (xs ++ x ∷ [])) → (xs : List A) → P xs
by_push {A = A} P n s xs = go xs [] n
  where
    go : (ys acc : List A) → P acc → P (acc ++ ys)
    go [] acc h = subst P (sym (append-nil acc)) h
    go (y ∷ ys) acc h = subst P (append_assoc acc (y ∷ []) ys) (go ys (acc ++ y ∷ []) (s acc y h))

-- a list is cut before an element that it has
pub cut_at : {A : Type 0} (xs : List A) (x : A) → Contains xs x → (taken : List A) × (rest : List A) × (xs ≡ taken ++ x ∷ rest)
cut_at [] x (k, l, e) = absurd (omega arith)
cut_at (y ∷ xs) x (zero, l, e) = ([], xs, ap (λ z. z ∷ xs) e)
cut_at (y ∷ xs) x (suc k, l, e) = let h = cut_at xs x (k, omega arith, e) in (y ∷ h.0, h.1, ap (λ z. y ∷ z) h.2)

pub Contains-here : {A : Type 0} (x : A) (xs : List A) → Contains (x ∷ xs) x
Contains-here x xs = (0, omega arith, refl)

pub Contains-later : {A : Type 0} (y : A) (xs : List A) (x : A) → Contains xs x → Contains (y ∷ xs) x
Contains-later y xs x (k, l, e) = (suc k, omega arith, e)

pub push_same : {A : Type 0} (xs ys : List A) (x y : A) → xs ++ x ∷ [] ≡ ys ++ y ∷ [] → (xs ≡ ys) × (x ≡ y)
push_same [] [] x y e = (refl, cc)
push_same [] (b ∷ []) x y e = absurd cc
push_same [] (b ∷ c ∷ ys) x y e = absurd cc
push_same (a ∷ []) [] x y e = absurd cc
push_same (a ∷ c ∷ xs) [] x y e = absurd cc
push_same (a ∷ xs) (b ∷ ys) x y e = let h = push_same xs ys x y cc in let f = h.0 in (cc, h.1)

pub head_or_tail : {A : Type 0} (y : A) (xs : List A) (x : A) → Contains (y ∷ xs) x → (y ≡ x) ⊎ Contains xs x
head_or_tail y xs x (zero, l, e) = inl e
head_or_tail y xs x (suc k, l, e) = inr (k, omega arith, e)

pub not-in_empty : {A : Type 0} (x : A) → Contains [] x → ⊥
not-in_empty x c = let h = c.1 in omega arith
