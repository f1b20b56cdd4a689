-- Two lists of one length are the same, or one comes first.
use Rattle.std.proofs.Common.{ℕ, zero, suc, ◌≡◌, ◌<◌, ◌⊎◌, inl, inr, List, [], ◌∷◌, length, get_or, refl, sym, arith}
use Rattle.std.proofs.lemmas.Bool.{cases_lt}
use Rattle.value_choices.specs.Choices.{Precedes}

later : (x y : ℕ) (xs ys : List ℕ) → x ≡ y → Precedes xs ys → Precedes (x ∷ xs) (y ∷ ys)
later x y xs ys e p = record { place = suc p.place; within = (let l = p.within in omega arith); same = same; smaller = p.smaller }
  where
    same : (i : ℕ) → i < suc p.place → get_or (x ∷ xs) i 0 ≡ get_or (y ∷ ys) i 0
    same zero l = e
    same (suc i) l = p.same i (omega arith)

here : (x y : ℕ) (xs ys : List ℕ) → x < y → Precedes (x ∷ xs) (y ∷ ys)
here x y xs ys l = record { place = 0; within = omega arith; same = λ i m. absurd (omega arith); smaller = l }

pub compared : (xs ys : List ℕ) → length xs ≡ length ys → Precedes xs ys ⊎ ((xs ≡ ys) ⊎ Precedes ys xs)
compared [] [] e = inr (inl refl)
compared [] (y ∷ ys) e = absurd (omega arith)
compared (x ∷ xs) [] e = absurd (omega arith)
compared (x ∷ xs) (y ∷ ys) e = elim (cases_lt x y) [
  | inl l ↦ inl (here x y xs ys l)
  | inr l ↦ elim (cases_lt y x) [
    | inl m ↦ inr (inr (here y x ys xs m))
    | inr m ↦ (
        let same : x ≡ y = omega arith in
        elim (compared xs ys (omega arith)) [
          | inl p ↦ inl (later x y xs ys same p)
          | inr (inl f) ↦ inr (inl (λ i. same i ∷ f i))
          | inr (inr p) ↦ inr (inr (later y x ys xs (sym same) p))
        ])
  ]
]
