-- A list of numbers in which one is changed, and one that is longer by one.
use Rattle.std.proofs.Common.{ℕ, ◌≡◌, ◌≢◌, ◌<◌, ◌+◌, inl, inr, List, [], ◌∷◌, ◌++◌, length, set, Some, slice_get, ap, sym, ◌∙◌, arith, length-set, get_or-set_same, get_or-set_other}
use Rattle.std.proofs.lemmas.Bool.{cases_lt}
use Rattle.std.proofs.lemmas.Option.{slice_get-get_or, slice_get_past}
use Rattle.tree_core.proofs.Gets.{get_right}

pub get-set_same : (xs : List ℕ) (i x : ℕ) → i < length xs → slice_get (set xs i x) i ≡ Some x
get-set_same xs i x l = let m = length-set xs i x in slice_get-get_or (set xs i x) i 0 (omega arith) ∙ ap Some (get_or-set_same xs i x 0 l)

pub get-set_other : (xs : List ℕ) (i j x : ℕ) → j ≢ i → slice_get (set xs i x) j ≡ slice_get xs j
get-set_other xs i j x n =
    let m = length-set xs i x in
    elim (cases_lt j (length xs)) [
      | inl l ↦ slice_get-get_or (set xs i x) j 0 (omega arith) ∙ ap Some (get_or-set_other xs i j x 0 n) ∙ sym (slice_get-get_or xs j 0 l)
      | inr l ↦ slice_get_past (set xs i x) j (omega arith) ∙ sym (slice_get_past xs j l)
    ]

module _ {A : Type 0} where
  -- the element that was put at the end
  pub get-push : (xs : List A) (x : A) (n : ℕ) → length xs ≡ n → slice_get (xs ++ x ∷ []) n ≡ Some x
  get-push xs x n l = ap (slice_get (xs ++ x ∷ [])) (let z : n ≡ length xs + 0 = omega arith in z) ∙ get_right xs (x ∷ []) 0
