-- What holds of each item that a loop has passed.
use Rattle.std.proofs.Common.{ℕ, ◌≡◌, ◌+◌, ◌<◌, ◌≤◌, ◌⊎◌, inl, inr, List, [], ◌∷◌, ◌++◌, length, get_or, take, sym, subst, ◌∙◌, Contains}
use Rattle.std.proofs.lemmas.List.{take_more, take_all}
use Rattle.std.proofs.lemmas.List.Elements.{Contains-get_or, Contains-push_cases}
use Rattle.plan_model.proofs.task_networks.Lists.{not-in_empty, head_or_tail, Contains-here, Contains-later}
use Rattle.live_parts.specs.Live.{EachSo, OneSo}

module _ {A : Type 0} (P : A → Type 0) where
  abbrev pub Each : List A → Type 0
  Each xs = (x : A) → Contains xs x → P x

  pub each_start : (xs : List A) → Each (take 0 xs)
  each_start xs x c = absurd (not-in_empty x c)

  pub each_next : (xs : List A) (i : ℕ) (d x : A) → i < length xs → x ≡ get_or xs i d → Each (take i xs) → P x → Each (take (i + 1) xs)
  each_next xs i d x l e before here y c = elim (Contains-push_cases (take i xs) (get_or xs i d) y (subst (λ z. Contains z y) (take_more xs i d l) c)) [
    | inl k ↦ before y k
    | inr f ↦ subst P (e ∙ f) here
  ]

  pub each_end : (xs : List A) (i : ℕ) → length xs ≤ i → Each (take i xs) → Each xs
  each_end xs i l each = subst Each (take_all i xs l) each

  pub each_at : (xs : List A) (i : ℕ) (d x : A) → i < length xs → x ≡ get_or xs i d → Each xs → P x
  each_at xs i d x l e each = subst P (sym e) (each (get_or xs i d) (Contains-get_or xs i d l))

  pub so_each : (xs : List A) → EachSo P xs → Each xs
  so_each [] s x c = absurd (not-in_empty x c)
  so_each (y ∷ xs) s x c = elim (head_or_tail y xs x c) [ inl e ↦ subst P e s.0 | inr k ↦ so_each xs s.1 x k ]

  pub each_so : (xs : List A) → Each xs → EachSo P xs
  each_so [] each = tt
  each_so (y ∷ xs) each = (each y (Contains-here y xs), each_so xs (λ x c. each x (Contains-later y xs x c)))

  pub some_one : (xs : List A) (x : A) → Contains xs x → P x → OneSo P xs
  some_one [] x c p = absurd (not-in_empty x c)
  some_one (y ∷ xs) x c p = elim (head_or_tail y xs x c) [ inl e ↦ inl (subst P (sym e) p) | inr k ↦ inr (some_one xs x k p) ]

  pub one_some : (xs : List A) → OneSo P xs → (x : A) × Contains xs x × P x
  one_some [] o = absurd o
  one_some (y ∷ xs) (inl p) = (y, Contains-here y xs, p)
  one_some (y ∷ xs) (inr o) = (let (x, c, p) = one_some xs o in (x, Contains-later y xs x c, p))

  pub one_at : (xs : List A) (i : ℕ) (d x : A) → i < length xs → x ≡ get_or xs i d → P x → OneSo P xs
  one_at xs i d x l e p = some_one xs (get_or xs i d) (Contains-get_or xs i d l) (subst P e p)

  pub one_push : (xs : List A) (y : A) → OneSo P (xs ++ y ∷ []) → OneSo P xs ⊎ P y
  one_push [] y (inl p) = inr p
  one_push [] y (inr o) = absurd o
  one_push (x ∷ xs) y (inl p) = inl (inl p)
  one_push (x ∷ xs) y (inr o) = elim (one_push xs y o) [ inl q ↦ inl (inr q) | inr q ↦ inr q ]

  pub push_one : (xs : List A) (y : A) → OneSo P xs ⊎ P y → OneSo P (xs ++ y ∷ [])
  push_one [] y (inl o) = absurd o
  push_one [] y (inr p) = inl p
  push_one (x ∷ xs) y (inl (inl p)) = inl p
  push_one (x ∷ xs) y (inl (inr o)) = inr (push_one xs y (inl o))
  push_one (x ∷ xs) y (inr p) = inr (push_one xs y (inr p))
