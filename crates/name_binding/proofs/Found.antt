-- The first and the last place of a number when the list grows, and the cells that keep them.
use Rattle.std.proofs.Common.{ℕ, zero, suc, ◌≡◌, ◌<◌, List, [], ◌∷◌, ◌++◌, Option, Some, None, Bool, true, false, cond, eqb, length, get_or, set, refl, sym, ◌∙◌, inl, inr, arith, length-set, get_or-set_same, get_or-set_other}
use Rattle.std.specs.Prelude.{option_map, is_some, All}
use Rattle.std.proofs.lemmas.Bool.{cases_Bool, cases_eq, cases_lt, eq-eqb, ne_eqb}
use Rattle.std.proofs.lemmas.List.{get_or_past}
use Rattle.std.proofs.lemmas.List.Elements.{All-pop}
use Rattle.name_binding.specs.Places.{first_place, last_place, later, cell, AreFirst, AreLast}

-- the first of two
abbrev pub either : Option ℕ → Option ℕ → Option ℕ
either (Some k) other = Some k
either None other = other

abbrev pub here : Bool → ℕ → Option ℕ
here same k = cond same (Some k) None

either-none : (o : Option ℕ) → either o None ≡ o
either-none None = refl
either-none (Some k) = refl

first-step : (b c : Bool) (o : Option ℕ) (k : ℕ) → cond b (Some 0) (option_map suc (either o (here c k))) ≡ either (cond b (Some 0) (option_map suc o)) (here c (suc k))
first-step true c o k = refl
first-step false true None k = refl
first-step false false None k = refl
first-step false c (Some j) k = refl

pub first-push : (n x : ℕ) (xs : List ℕ) → first_place n (xs ++ x ∷ []) ≡ either (first_place n xs) (here (eqb n x) (length xs))
first-push n x [] = refl
first-push n x (y ∷ ys) = rw (first-push n x ys) (first-step (eqb n y) (eqb n x) (first_place n ys) (length ys))

last-step : (b c : Bool) (o : Option ℕ) (k : ℕ) → later (cond c (Some k) o) b ≡ cond c (Some (suc k)) (later o b)
last-step b true o k = refl
last-step b false o k = refl

later-none : (b : Bool) → later None b ≡ cond b (Some 0) None
later-none true = refl
later-none false = refl

pub last-push : (n x : ℕ) (xs : List ℕ) → last_place n (xs ++ x ∷ []) ≡ cond (eqb n x) (Some (length xs)) (last_place n xs)
last-push n x [] = later-none (eqb n x)
last-push n x (y ∷ ys) = rw (last-push n x ys) (last-step (eqb n y) (eqb n x) (last_place n ys) (length ys))

-- at another number a list is as it was in front of the last one
pub first_other : (n x : ℕ) (xs : List ℕ) → (n ≡ x → ⊥) → first_place n (xs ++ x ∷ []) ≡ first_place n xs
first_other n x xs d = rw (first-push n x xs, ne_eqb n x d) (either-none (first_place n xs))

pub last_other : (n x : ℕ) (xs : List ℕ) → (n ≡ x → ⊥) → last_place n (xs ++ x ∷ []) ≡ last_place n xs
last_other n x xs d = rw (last-push n x xs, ne_eqb n x d)

pub last_same : (x : ℕ) (xs : List ℕ) → last_place x (xs ++ x ∷ []) ≡ Some (length xs)
last_same x xs = rw (last-push x x xs, eq-eqb x x refl)

pub first_new : (x : ℕ) (xs : List ℕ) → first_place x xs ≡ None → first_place x (xs ++ x ∷ []) ≡ Some (length xs)
first_new x xs e = rw (first-push x x xs, e, eq-eqb x x refl)

pub first_known : (n x k : ℕ) (xs : List ℕ) → first_place n xs ≡ Some k → first_place n (xs ++ x ∷ []) ≡ Some k
first_known n x k xs e = rw (first-push n x xs, e)

-- a cell that is not empty is there
pub cell_within : (cells : List (Option ℕ)) (x k : ℕ) → cell cells x ≡ Some k → x < length cells
cell_within cells x k e = elim (cases_lt x (length cells)) [
  | inl l ↦ l
  | inr l ↦ let past = get_or_past cells x None l in absurd cc
]

none_from_test : (o : Option ℕ) → is_some o ≡ false → o ≡ None
none_from_test None e = refl
none_from_test (Some k) e = absurd cc

some_from_test : (o : Option ℕ) → is_some o ≡ true → (k : ℕ) × (o ≡ Some k)
some_from_test None e = absurd cc
some_from_test (Some k) e = (k, refl)

pub declared_new : (cells : List (Option ℕ)) (numbers : List ℕ) (x : ℕ) → AreFirst cells numbers → x < length cells → is_some (cell cells x) ≡ false → AreFirst (set cells x (Some (length numbers))) (numbers ++ x ∷ [])
declared_new cells numbers x h l e n = elim (cases_eq n x) [
  | inl same ↦ rw same (get_or-set_same cells x (Some (length numbers)) None l ∙ sym (first_new x numbers (sym (h x) ∙ none_from_test (cell cells x) e)))
  | inr other ↦ get_or-set_other cells x n (Some (length numbers)) None other ∙ (h n ∙ sym (first_other n x numbers other))
]

pub declared_again : (cells : List (Option ℕ)) (numbers : List ℕ) (x : ℕ) → AreFirst cells numbers → is_some (cell cells x) ≡ true → AreFirst cells (numbers ++ x ∷ [])
declared_again cells numbers x h e n = elim (cases_eq n x) [
  | inl same ↦ let s = some_from_test (cell cells x) e in rw same (s.1 ∙ sym (first_known x x s.0 numbers (sym (h x) ∙ s.1)))
  | inr other ↦ h n ∙ sym (first_other n x numbers other)
]

pub last_entered : (cells : List (Option ℕ)) (numbers : List ℕ) (x : ℕ) → AreLast cells numbers → x < length cells → AreLast (set cells x (Some (length numbers))) (numbers ++ x ∷ [])
last_entered cells numbers x h l n = elim (cases_eq n x) [
  | inl same ↦ rw same (get_or-set_same cells x (Some (length numbers)) None l ∙ sym (last_same x numbers))
  | inr other ↦ get_or-set_other cells x n (Some (length numbers)) None other ∙ (h n ∙ sym (last_other n x numbers other))
]

pub last_left : (cells : List (Option ℕ)) (numbers : List ℕ) (x : ℕ) (hidden : Option ℕ) → AreLast cells (numbers ++ x ∷ []) → hidden ≡ last_place x numbers → AreLast (set cells x hidden) numbers
last_left cells numbers x hidden h e n = elim (cases_eq n x) [
  | inl same ↦ rw same (get_or-set_same cells x hidden None (cell_within cells x (length numbers) (h x ∙ last_same x numbers)) ∙ e)
  | inr other ↦ get_or-set_other cells x n hidden None other ∙ (h n ∙ last_other n x numbers other)
]

-- while declarations are taken back: each of those that are left has a cell, and the cells of others are empty
pub record IsClearing (cells : List (Option ℕ)) (numbers : List ℕ) : Type 0 where
  pub room : All (λ n. n < length cells) numbers
  pub empty : (n : ℕ) → first_place n numbers ≡ None → cell cells n ≡ None

first_at : (xs : List ℕ) (k d : ℕ) → k < length xs → (j : ℕ) × (first_place (get_or xs k d) xs ≡ Some j)
first_at [] k d l = absurd (omega (arith, l))
first_at (x ∷ xs) zero d l = (0, rw (eq-eqb x x refl))
first_at (x ∷ xs) (suc k) d l = elim (cases_Bool (eqb (get_or xs k d) x)) [
  | inl t ↦ (0, rw t)
  | inr f ↦ let r = first_at xs k d (omega (arith, l)) in (suc r.0, rw (f, r.1))
]

pub clearing_start : (cells : List (Option ℕ)) (numbers : List ℕ) → AreFirst cells numbers → IsClearing cells numbers
clearing_start cells numbers h = record {
  room = λ k d l. let at = first_at numbers k d l in cell_within cells (get_or numbers k d) at.0 (h (get_or numbers k d) ∙ at.1);
  empty = λ n e. h n ∙ e;
}

pub clearing_more : (cells : List (Option ℕ)) (numbers : List ℕ) (x : ℕ) → IsClearing cells (numbers ++ x ∷ []) → IsClearing (set cells x None) numbers
clearing_more cells numbers x h = record {
  room = rw (length-set cells x None) ((All-pop (λ n. n < length cells) (numbers ++ x ∷ []) numbers (Some x) refl h.room).0);
  empty = λ n e. elim (cases_eq n x) [
    | inl same ↦ rw same (get_or-set_same cells x None None ((All-pop (λ m. m < length cells) (numbers ++ x ∷ []) numbers (Some x) refl h.room).1))
    | inr other ↦ get_or-set_other cells x n None None other ∙ h.empty n (first_other n x numbers other ∙ e)
  ];
}

within-step : (b : Bool) (o : Option ℕ) (k m : ℕ) → ((j : ℕ) → o ≡ Some j → j < m) → cond b (Some 0) (option_map suc o) ≡ Some k → k < suc m
within-step true o k m h e = let z : k ≡ 0 = cc in omega arith
within-step false None k m h e = absurd cc
within-step false (Some j) k m h e =
    let z : k ≡ suc j = cc in
    let l = h j refl in
    omega arith

pub first_within : (n : ℕ) (xs : List ℕ) (k : ℕ) → first_place n xs ≡ Some k → k < length xs
first_within n [] k e = absurd cc
first_within n (x ∷ xs) k e = within-step (eqb n x) (first_place n xs) k (length xs) (first_within n xs) e
