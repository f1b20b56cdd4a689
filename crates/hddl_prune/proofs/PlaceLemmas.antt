-- What is among the places of marks, and that they rise.
use Rattle.std.proofs.Common.{ℕ, zero, suc, ◌≡◌, ◌+◌, ◌<◌, ◌≤◌, ◌↔◌, inl, inr, Bool, true, false, List, [], ◌∷◌, ◌++◌, length, slice_index, get_or, set, take, replicate, refl, ap, sym, subst, ◌∙◌, Contains, arith}
use Rattle.std.specs.List.Sorted.{IsStrictlyIncreasing}
use Rattle.plan_model.proofs.task_networks.Lists.{not-in_empty, head_or_tail, Contains-here, Contains-later}
use Rattle.std.proofs.lemmas.List.{take_all}
use Rattle.plan_model.specs.Parts.{IsMarked}
use Rattle.plan_model.proofs.Marks.{set_is_marked, set_keeps, set_marks}
use Rattle.plan_model.specs.task_networks.Spelling.{numbers}
use Rattle.plan_model.proofs.task_networks.Numbers.{to_numbers, length-numbers}
use Rattle.plan_model.proofs.task_networks.Different.{no_more}
use Rattle.live_parts.proofs.PrunedPlaces.{rising_differ}
use Rattle.hddl_prune.specs.Places.{places_from, HasAlso}

-- each place is at least the number from which is counted
pub at_least : (k : ℕ) (bs : List Bool) (n : ℕ) → Contains (places_from k bs) n → k ≤ n
at_least k [] n c = absurd (not-in_empty n c)
at_least k (true ∷ bs) n c = elim (head_or_tail k (places_from (suc k) bs) n c) [ inl e ↦ omega arith | inr d ↦ (let l = at_least (suc k) bs n d in omega arith) ]
at_least k (false ∷ bs) n c = let l = at_least (suc k) bs n c in omega arith

-- what is a place is marked
pub place_to : (k : ℕ) (bs : List Bool) (i : ℕ) → Contains (places_from k bs) (k + i) → get_or bs i false ≡ true
place_to k [] i c = absurd (not-in_empty (k + i) c)
place_to k (true ∷ bs) zero c = refl
place_to k (false ∷ bs) zero c = absurd (let l = at_least (suc k) bs (k + 0) c in omega arith)
place_to k (true ∷ bs) (suc i) c =
    let e : k + suc i ≡ suc k + i = omega arith in
    place_to (suc k) bs i (elim (head_or_tail k (places_from (suc k) bs) (k + suc i) c) [ inl f ↦ absurd (omega arith) | inr d ↦ subst (Contains (places_from (suc k) bs)) e d ])
place_to k (false ∷ bs) (suc i) c =
    let e : k + suc i ≡ suc k + i = omega arith in
    place_to (suc k) bs i (subst (Contains (places_from (suc k) bs)) e c)

-- what is marked is a place
pub to_place : (k : ℕ) (bs : List Bool) (i : ℕ) → get_or bs i false ≡ true → Contains (places_from k bs) (k + i)
to_place k [] i e = absurd cc
to_place k (true ∷ bs) zero e = let f : k ≡ k + 0 = omega arith in subst (Contains (k ∷ places_from (suc k) bs)) f (Contains-here k (places_from (suc k) bs))
to_place k (false ∷ bs) zero e = absurd cc
to_place k (true ∷ bs) (suc i) e =
    let f : suc k + i ≡ k + suc i = omega arith in
    Contains-later k (places_from (suc k) bs) (k + suc i) (subst (Contains (places_from (suc k) bs)) f (to_place (suc k) bs i e))
to_place k (false ∷ bs) (suc i) e =
    let f : suc k + i ≡ k + suc i = omega arith in
    subst (Contains (places_from (suc k) bs)) f (to_place (suc k) bs i e)

rising_cons : (k : ℕ) (xs : List ℕ) → ((n : ℕ) → Contains xs n → suc k ≤ n) → IsStrictlyIncreasing xs → IsStrictlyIncreasing (k ∷ xs)
rising_cons k [] above r = λ i l. absurd (omega arith)
rising_cons k (x ∷ xs) above r = go
  where
    go : IsStrictlyIncreasing (k ∷ x ∷ xs)
    go zero l = above x (Contains-here x xs)
    go (suc i) l =
        let e : suc i + 1 ≡ suc (i + 1) = omega arith in
        subst (λ j. slice_index (k ∷ x ∷ xs) (suc i) < slice_index (k ∷ x ∷ xs) j) (sym e) (r i (omega arith))

pub places_rise : (k : ℕ) (bs : List Bool) → IsStrictlyIncreasing (places_from k bs)
places_rise k [] = λ i l. absurd (omega arith)
places_rise k (true ∷ bs) = rising_cons k (places_from (suc k) bs) (at_least (suc k) bs) (places_rise (suc k) bs)
places_rise k (false ∷ bs) = places_rise (suc k) bs

pub place_is : (bs : List Bool) (n : ℕ) → Contains (places_from 0 bs) n → get_or bs n false ≡ true
place_is bs n c = let e : n ≡ 0 + n = omega arith in place_to 0 bs n (subst (Contains (places_from 0 bs)) e c)

pub is_place : (bs : List Bool) (n : ℕ) → get_or bs n false ≡ true → Contains (places_from 0 bs) n
is_place bs n t = let e : 0 + n ≡ n = omega arith in subst (Contains (places_from 0 bs)) e (to_place 0 bs n t)

-- one more mark
pub marked_too : (old wide : List Bool) (n : ℕ) → ((i : ℕ) → IsMarked wide i ↔ IsMarked old i) → n < length wide
    → HasAlso (places_from 0 old) (λ k. k ≡ n) (places_from 0 (set wide n true))
marked_too old wide n same l = λ k. (
  λ c. elim (set_marks wide n k (place_is (set wide n true) k c)) [ inl e ↦ inr e | inr m ↦ inl (is_place old k ((same k).0 m)) ],
  λ c. is_place (set wide n true) k (elim c [
    | inl d ↦ set_keeps wide n k ((same k).1 (place_is old k d))
    | inr e ↦ subst (IsMarked (set wide n true)) (sym e) (set_is_marked wide n l)
  ]),
)

-- room behind the marks has none
none_behind : (j i : ℕ) → get_or (replicate j false) i false ≡ false
none_behind zero i = refl
none_behind (suc j) zero = refl
none_behind (suc j) (suc i) = none_behind j i

same_behind : (xs : List Bool) (j i : ℕ) → get_or (xs ++ replicate j false) i false ≡ get_or xs i false
same_behind [] j i = none_behind j i
same_behind (x ∷ xs) j zero = refl
same_behind (x ∷ xs) j (suc i) = same_behind xs j i

pub same_marks : (old new : List Bool) (n j : ℕ) → length old ≤ n → new ≡ take n old ++ replicate j false → (i : ℕ) → IsMarked new i ↔ IsMarked old i
same_marks old new n j l e i =
    let f : new ≡ old ++ replicate j false = e ∙ ap (λ z. z ++ replicate j false) (take_all n old l) in
    let g : get_or new i false ≡ get_or old i false = ap (λ z. get_or z i false) f ∙ same_behind old j i in
    (λ m. sym g ∙ m, λ m. g ∙ m)

-- with a number more a rising list is longer
pub longer : (xs ys : List ℕ) (n : ℕ) → IsStrictlyIncreasing xs → HasAlso xs (λ k. k ≡ n) ys → (Contains xs n → ⊥) → length xs < length ys
longer xs ys n r h new =
    let l = no_more (n ∷ xs) ys (new, rising_differ xs r) (λ x c. elim (head_or_tail n xs x c) [ inl e ↦ (h x).1 (inr (sym e)) | inr k ↦ (h x).1 (inl k) ]) in
    omega arith

-- a rising list of numbers below a limit is no longer than it
pub few : (xs : List ℕ) (m : ℕ) → IsStrictlyIncreasing xs → ((x : ℕ) → Contains xs x → x < m) → length xs ≤ m
few xs m r below =
    let l = no_more xs (numbers 0 m) (rising_differ xs r) (λ x c. to_numbers 0 m x (omega arith) (let b = below x c in omega arith)) in
    let k = length-numbers 0 m in
    omega arith
