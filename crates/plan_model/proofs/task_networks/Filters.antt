-- What a filter keeps.
use Rattle.std.proofs.Common.{◌≡◌, ◌⊎◌, inl, inr, List, [], ◌∷◌, filter, Bool, true, false, cond, refl, ap, subst, Contains, arith}
use Rattle.htn_base.specs.Different.{AreDifferent}
use Rattle.plan_model.proofs.task_networks.Lists.{not-in_empty, head_or_tail, Contains-later}

-- a filter keeps what passes
pub filter_to : {A : Type 0} (test : A → Bool) (xs : List A) (x : A) → Contains (filter test xs) x → Contains xs x × (test x ≡ true)
filter_to test [] x c = absurd (not-in_empty x c)
filter_to {A = A} test (y ∷ xs) x c = go (test y) refl (λ d. filter_to test xs x d) c
  where
    go : (b : Bool) → test y ≡ b → (Contains (filter test xs) x → Contains xs x × (test x ≡ true)) → Contains (cond b (y ∷ filter test xs) (filter test xs)) x → Contains (y ∷ xs) x × (test x ≡ true)
    go true e ih d = elim (head_or_tail y (filter test xs) x d) [ inl f ↦ ((0, omega arith, f), subst (λ z. test z ≡ true) f e) | inr f ↦ (Contains-later y xs x (ih f).0, (ih f).1) ]
    go false e ih d = (Contains-later y xs x (ih d).0, (ih d).1)

pub to_filter : {A : Type 0} (test : A → Bool) (xs : List A) (x : A) → Contains xs x → test x ≡ true → Contains (filter test xs) x
to_filter test [] x c t = absurd (not-in_empty x c)
to_filter {A = A} test (y ∷ xs) x c t = go (test y) refl (head_or_tail y xs x c) (λ d. to_filter test xs x d t)
  where
    go : (b : Bool) → test y ≡ b → (y ≡ x) ⊎ Contains xs x → (Contains xs x → Contains (filter test xs) x) → Contains (cond b (y ∷ filter test xs) (filter test xs)) x
    go true e (inl f) ih = (0, omega arith, f)
    go true e (inr f) ih = Contains-later y (filter test xs) x (ih f)
    go false e (inl f) ih = let g = ap test f in absurd cc
    go false e (inr f) ih = ih f

pub different-filter : {A : Type 0} (test : A → Bool) (xs : List A) → AreDifferent xs → AreDifferent (filter test xs)
different-filter test [] d = tt
different-filter {A = A} test (y ∷ xs) d = go (test y) (different-filter test xs d.1)
  where
    go : (b : Bool) → AreDifferent (filter test xs) → AreDifferent (cond b (y ∷ filter test xs) (filter test xs))
    go true h = (λ c. d.0 (filter_to test xs y c).0, h)
    go false h = h
