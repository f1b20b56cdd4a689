-- One more number at the end of those that are seen.
use Rattle.std.proofs.Common.{◌≡◌, ◌≢◌, ℕ, suc, List, [], ◌∷◌, ◌++◌, Bool, true, false, cond, ◌||◌, nat_eq, Option, Some, None, refl, ap, ◌∙◌, sym, true≢false, inl, inr}
use Rattle.std.specs.Prelude.{is_some, option_map}
use Rattle.std.specs.BTreeSet as sorted
use Rattle.std.specs.BTreeSet.{BTreeSet}
use Rattle.std.specs.Cmp.{Equal-is}
use Rattle.std.specs.Ordering.{nat_cmp, is_eq}
use Rattle.std.proofs.lemmas.Bool.{cases_eq, eq-eqb, ne_eqb}
use Rattle.std.proofs.lemmas.List.Folds.{list_any-append}
use Rattle.std.proofs.lemmas.Map.Lookups.{exact_unsigned}
use Rattle.name_binding.specs.Places.{first_place}
use Rattle.name_binding.specs.Seen.{is_among, first_seen, with_number, AreSeen}

first_seen-push-cases : (a b c : Bool) (x n : ℕ) (xs : List ℕ)
    → x ∷ cond ((b || a) || c) xs (xs ++ n ∷ []) ≡ cond (a || (b || c)) (x ∷ xs) ((x ∷ xs) ++ n ∷ [])
first_seen-push-cases true true c x n xs = refl
first_seen-push-cases true false c x n xs = refl
first_seen-push-cases false true c x n xs = refl
first_seen-push-cases false false true x n xs = refl
first_seen-push-cases false false false x n xs = refl

-- it goes last, unless it was seen
pub first_seen-push : (seen xs : List ℕ) (n : ℕ)
    → first_seen seen (xs ++ n ∷ []) ≡ cond (is_among n seen || is_among n (first_seen seen xs)) (first_seen seen xs) (first_seen seen xs ++ n ∷ [])
first_seen-push seen [] n = by (is_among n seen)
  where
    by : (a : Bool) → cond a [] (n ∷ []) ≡ cond (a || false) [] (n ∷ [])
    by true = refl
    by false = refl
first_seen-push seen (x ∷ xs) n = by (is_among x seen) (first_seen-push seen xs n) (first_seen-push (x ∷ seen) xs n)
  where
    by : (known : Bool)
        → first_seen seen (xs ++ n ∷ []) ≡ cond (is_among n seen || is_among n (first_seen seen xs)) (first_seen seen xs) (first_seen seen xs ++ n ∷ [])
        → first_seen (x ∷ seen) (xs ++ n ∷ []) ≡ cond (is_among n (x ∷ seen) || is_among n (first_seen (x ∷ seen) xs)) (first_seen (x ∷ seen) xs) (first_seen (x ∷ seen) xs ++ n ∷ [])
        → cond known (first_seen seen (xs ++ n ∷ [])) (x ∷ first_seen (x ∷ seen) (xs ++ n ∷ []))
        ≡ cond (is_among n seen || is_among n (cond known (first_seen seen xs) (x ∷ first_seen (x ∷ seen) xs)))
        (cond known (first_seen seen xs) (x ∷ first_seen (x ∷ seen) xs))
        (cond known (first_seen seen xs) (x ∷ first_seen (x ∷ seen) xs) ++ n ∷ [])
    by true same new = same
    by false same new =
        ap (λ ys. x ∷ ys) new
        ∙ first_seen-push-cases (is_among n seen) (nat_eq n x) (is_among n (first_seen (x ∷ seen) xs)) x n (first_seen (x ∷ seen) xs)

pub with_number-first_seen : (xs : List ℕ) (n : ℕ) → with_number (first_seen [] xs) n ≡ first_seen [] (xs ++ n ∷ [])
with_number-first_seen xs n = sym (first_seen-push [] xs n)

or_right : (a b : Bool) → b ≡ true → (a || (b || false)) ≡ true
or_right true b e = refl
or_right false true e = refl
or_right false false e = absurd (true≢false (sym e))

or_left : (a b : Bool) → b ≡ false → (a || (b || false)) ≡ a
or_left true b e = refl
or_left false true e = absurd (true≢false e)
or_left false false e = refl

-- the set of the numbers and the list of them take one more
pub seen-put : (old new : BTreeSet ℕ) (numbers : List ℕ) (n : ℕ) → AreSeen old numbers → sorted.UpdatesBy nat_cmp (nat_cmp n) old new true
    → AreSeen new (numbers ++ n ∷ [])
seen-put old new numbers n seen put m = elim (cases_eq m n) [
  | inl same ↦
      ap (λ k. sorted.contains nat_cmp new k) same ∙ put.1
      ∙ sym (list_any-append (nat_eq m) numbers (n ∷ []) ∙ or_right (is_among m numbers) (nat_eq m n) (eq-eqb m n same))
  | inr differ ↦
      put.2 m (apart differ (is_eq (nat_cmp n m)) refl) ∙ seen m
      ∙ sym (list_any-append (nat_eq m) numbers (n ∷ []) ∙ or_left (is_among m numbers) (nat_eq m n) (ne_eqb m n differ))
]
  where
    apart : m ≢ n → (b : Bool) → is_eq (nat_cmp n m) ≡ b → b ≡ false
    apart differ true e = absurd (differ (sym (exact_unsigned n m ((Equal-is (nat_cmp n m)).0 e))))
    apart differ false e = refl

first_place-step : (same : Bool) (found : Option ℕ) → is_some (cond same (Some 0) (option_map suc found)) ≡ (same || is_some found)
first_place-step true found = refl
first_place-step false None = refl
first_place-step false (Some k) = refl

-- a number has a place exactly where it is among the others
pub is_some-first_place : (n : ℕ) (xs : List ℕ) → is_some (first_place n xs) ≡ is_among n xs
is_some-first_place n [] = refl
is_some-first_place n (x ∷ xs) = first_place-step (nat_eq n x) (first_place n xs) ∙ ap (λ there. nat_eq n x || there) (is_some-first_place n xs)
