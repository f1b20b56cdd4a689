-- A search over the objects of the types.
use Rattle.std.proofs.Common.{ℕ, ◌≡◌, ◌+◌, ◌<◌, ◌++◌, List, [], ◌∷◌, inl, inr, subst, append_assoc, arith}
use Rattle.std.proofs.lemmas.Bool.{cases_lt}
use Rattle.plan_model.specs.declared.terms.Param.{Param}
use Rattle.plan_model.specs.plan_meaning.Truth.{AreTyped}

-- what holds of the numbers below one, and of it, holds below the next
pub below-next : (P : ℕ → Type 0) (i : ℕ) → ((o : ℕ) → o < i → P o) → P i → (o : ℕ) → o < i + 1 → P o
below-next P i h p o l = elim (cases_lt o i) [
  | inl m ↦ h o m
  | inr m ↦ let e : i ≡ o = omega arith in subst P e p
]

-- with each object of the first type, and then with each of the others, is with each
pub each-typed : (InType : ℕ → ℕ → Type 0) (P : List ℕ → Type 0) (p : Param) (ps : List Param) (v : List ℕ) → ((o : ℕ) (os : List ℕ) → InType o p.ty → AreTyped InType ps os → P ((v ++ o ∷ []) ++ os)) → (os : List ℕ) → AreTyped InType (p ∷ ps) os → P (v ++ os)
each-typed InType P p ps v h [] a = absurd a
each-typed InType P p ps v h (o ∷ os) a = subst P (append_assoc v (o ∷ []) os) (h o os a.0 a.1)
