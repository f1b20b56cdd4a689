-- The least number of an increasing list that is not less than another.
use Rattle.std.proofs.Common.{ℕ, zero, suc, ◌≡◌, ◌+◌, ◌<◌, ◌≤◌, inl, inr, true, false, List, [], ◌∷◌, length, get_or, Option, Some, None, slice_get, refl, sym, subst, ◌∙◌, ltb, Contains, arith}
use Rattle.std.specs.List.Sorted.{IsStrictlyIncreasing, IsNonDecreasingBy, IsPartitionPoint}
use Rattle.std.proofs.lemmas.Bool.{cases_lt, ltb-true, ltb-false}
use Rattle.std.proofs.lemmas.Option.{slice_get_within, get_or_from_slice_get}
use Rattle.std.proofs.lemmas.List.{get_or_default}
use Rattle.std.proofs.lemmas.List.Sorted.{IsNonDecreasingBy-from_all_adjacent}
use Rattle.value_choices.specs.Ranges.{IsLeastFrom, IsTheLeastFrom}

pub get_some : {A : Type 0} (xs : List A) (k : ℕ) → k < length xs → (x : A) × (slice_get xs k ≡ Some x)
get_some [] k l = absurd (omega arith)
get_some (x ∷ xs) zero l = (x, refl)
get_some (x ∷ xs) (suc k) l = get_some xs k (omega arith)

pub non_decreasing : (xs : List ℕ) → IsStrictlyIncreasing xs → IsNonDecreasingBy (λ x. x) xs
non_decreasing xs up = IsNonDecreasingBy-from_all_adjacent (λ x. x) xs (λ k d l. step k d l)
  where
    step : (k d : ℕ) → k + 1 < length xs → get_or xs k d ≤ get_or xs (k + 1) d
    step k d l =
        let a = get_or_default xs k d 0 (omega arith) in
        let b = get_or_default xs (k + 1) d 0 l in
        let m = up k l in
        omega arith

pub one_is : (x y : ℕ) → Contains (x ∷ []) y → x ≡ y
one_is x y (zero, l, e) = e
one_is x y (suc k, l, e) = absurd (omega arith)

pub one_from : (x low : ℕ) → low ≤ x → IsLeastFrom (x ∷ []) low x
one_from x low l = record { is = (0, omega arith, refl); from = l; least = λ y c m. (let e = one_is x y c in omega arith) }

pub one_none : (x low : ℕ) → x < low → IsTheLeastFrom (x ∷ []) low None
one_none x low l = λ y c m. (let e = one_is x y c in omega arith)

module _ (xs : List ℕ) (low i : ℕ) (cut : IsPartitionPoint (λ y. ltb y low ≡ true) (λ y. ltb y low ≡ false) xs i)
    (up : IsStrictlyIncreasing xs) where
  before : (k y : ℕ) → k < i → get_or xs k y ≡ y → low ≤ y → ⊥
  before k y l e m =
      let a = cut.0 k y (omega arith) l in
      let b : ltb y low ≡ true = subst (λ z. ltb z low ≡ true) e a in
      let c : y < low = ltb-true y low b in
      omega arith

  behind : (k y : ℕ) → i ≤ k → k < length xs → get_or xs k y ≡ y → low ≤ y
  behind k y l m e = ltb-false y low (subst (λ z. ltb z low ≡ false) e (cut.1 k y l m))

  pub least_listed : (found : Option ℕ) → slice_get xs i ≡ found → IsTheLeastFrom xs low found
  least_listed None e = λ y (k, l, f) m. elim (cases_lt k i) [
    | inl n ↦ before k y n f m
    | inr n ↦ (let (x, g) = get_some xs i (let z : i < length xs = omega arith in z) in let h : None ≡ Some x = sym e ∙ g in absurd cc)
  ]
  least_listed (Some x) e =
      let w = slice_get_within xs i x e in
      let at = get_or_from_slice_get xs i x x e in
      record {
        is = (i, w, at);
        from = behind i x (omega arith) w at;
        least = λ y (k, l, f) m. elim (cases_lt k i) [
          | inl n ↦ absurd (before k y n f m)
          | inr n ↦ (
              let a = get_or_default xs k y x l in
              let b = non_decreasing xs up i k x n l in
              omega arith)
        ];
      }
