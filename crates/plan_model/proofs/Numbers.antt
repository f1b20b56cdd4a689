-- Rising lists of numbers, as they are found one by one.
use Rattle.std.proofs.Common.{ℕ, ◌≡◌, ◌+◌, ◌<◌, ◌↔◌, inl, inr, List, [], ◌∷◌, ◌++◌, length, get_or, sym, subst, arith}
use Rattle.std.specs.Prelude.{Contains}
use Rattle.std.specs.List.Sorted.{IsStrictlyIncreasing}
use Rattle.std.proofs.lemmas.Grind.{common_steps}
use Rattle.std.proofs.lemmas.Bool.{cases_eq, cases_lt}
use Rattle.std.proofs.lemmas.List.{length_push}
use Rattle.std.proofs.lemmas.List.Elements.{Contains-get_or, Contains-push, Contains-push_cases, Contains-append_left}

pub IsStrictlyIncreasing-push : (xs : List ℕ) (x : ℕ) → IsStrictlyIncreasing xs → ((y : ℕ) → Contains xs y → y < x) → IsStrictlyIncreasing (xs ++ x ∷ [])
IsStrictlyIncreasing-push xs x rising below k l = elim (cases_lt (k + 1) (length xs)) [
  | inl m ↦ let h = rising k m in grind (arith, common_steps, h)
  | inr m ↦
      let n = length_push xs x in
      let in_xs : k < length xs = omega arith in
      let h : get_or xs k 0 < x = below (get_or xs k 0) (Contains-get_or xs k 0 in_xs) in
      let e : k + 1 ≡ length xs = omega arith in
      grind (arith, common_steps, h, e)
]

-- those of the numbers below n that are as P says, in order
pub record AreFound (P : ℕ → Type 0) (n : ℕ) (found : List ℕ) : Type 0 where
  pub each : (x : ℕ) → Contains found x ↔ ((x < n) × P x)
  pub rising : IsStrictlyIncreasing found

module _ (P : ℕ → Type 0) where
  pub found_none : AreFound P 0 []
  found_none = record {
    each = λ x. ((λ c. absurd (let l = c.1 in omega arith)), (λ c. absurd (let l = c.0 in omega arith)));
    rising = λ k l. absurd (omega arith);
  }

  module _ (n : ℕ) (found : List ℕ) (h : AreFound P n found) where
    pub found_more : P n → AreFound P (n + 1) (found ++ n ∷ [])
    found_more p = record {
      each = λ x. (
        λ c. elim (Contains-push_cases found n x c) [
          | inl o ↦ (let l = ((h.each x).0 o).0 in omega arith, ((h.each x).0 o).1)
          | inr e ↦ (omega arith, subst P e p)
        ],
        λ t. elim (cases_eq x n) [
          | inl e ↦ subst (Contains (found ++ n ∷ [])) (sym e) (Contains-push found n)
          | inr d ↦ Contains-append_left found (n ∷ []) x ((h.each x).1 (let l = t.0 in omega arith, t.1))
        ],
      );
      rising = IsStrictlyIncreasing-push found n h.rising (λ y c. ((h.each y).0 c).0);
    }

    pub found_less : (P n → ⊥) → AreFound P (n + 1) found
    found_less p = record {
      each = λ x. (
        λ c. (let l = ((h.each x).0 c).0 in omega arith, ((h.each x).0 c).1),
        λ t. elim (cases_eq x n) [
          | inl e ↦ absurd (p (subst P e t.1))
          | inr d ↦ (h.each x).1 (let l = t.0 in omega arith, t.1)
        ],
      );
      rising = h.rising;
    }
