-- One item more of a copy, and the places of numbers.
use Rattle.std.proofs.Common.{ℕ, zero, suc, ◌≡◌, ◌+◌, ◌<◌, ◌≤◌, Bool, true, false, if◌then◌else◌, List, [], ◌∷◌, ◌++◌, map, length, take, get_or, Option, Some, None, slice_get, refl, ap, sym, ◌∙◌, inl, inr, arith}
use Rattle.std.specs.List.Sorted.{IsStrictlyIncreasing}
use Rattle.std.proofs.lemmas.List.{append-nil, map-append, take_more, take_all}
use Rattle.std.proofs.lemmas.List.Kept.{AllPairs-from_increasing}
use Rattle.std.proofs.lemmas.Option.{slice_get-get_or, slice_get_within, get_or_from_slice_get}
use Rattle.std.proofs.lemmas.Bool.{cases_lt}
use Rattle.live_parts.specs.Pruned.{with_first, only, place}
use Rattle.live_parts.proofs.Places.{at_place, place_in}
use Rattle.live_parts.proofs.Pushed.{place_past}
use Rattle.live_parts.proofs.PrunedPlaces.{rising_differ, one_place, place_found}
use Rattle.hddl_prune.specs.Places.{places_from}

-- one flag more
abbrev if_marked : Bool → ℕ → List ℕ
if_marked b n = if b then n ∷ [] else []

places_push : (k : ℕ) (bs : List Bool) (b : Bool) → places_from k (bs ++ b ∷ []) ≡ places_from k bs ++ if_marked b (k + length bs)
places_push k [] true = let e : k ≡ k + 0 = omega arith in ap (λ n. n ∷ []) e
places_push k [] false = refl
places_push k (true ∷ bs) b =
    let e : suc k + length bs ≡ k + suc (length bs) = omega arith in
    ap (λ ns. k ∷ ns) (places_push (suc k) bs b ∙ ap (λ n. places_from (suc k) bs ++ if_marked b n) e)
places_push k (false ∷ bs) b =
    let e : suc k + length bs ≡ k + suc (length bs) = omega arith in
    places_push (suc k) bs b ∙ ap (λ n. places_from (suc k) bs ++ if_marked b n) e

length_taken : {A : Type 0} (xs : List A) (i : ℕ) → i ≤ length xs → length (take i xs) ≡ i
length_taken xs zero l = refl
length_taken [] (suc i) l = absurd (omega arith)
length_taken (x ∷ xs) (suc i) l = ap suc (length_taken xs i (omega arith))

next_place : (flags : List Bool) (i : ℕ) (b : Bool) → i < length flags → get_or flags i false ≡ b → places_from 0 (take (i + 1) flags) ≡ places_from 0 (take i flags) ++ if_marked b i
next_place flags i b l e =
    let k = length_taken flags i (omega arith) in
    let m : 0 + length (take i flags) ≡ i = omega (arith, k) in
    ap (places_from 0) (take_more flags i false l ∙ ap (λ z. take i flags ++ z ∷ []) e) ∙ places_push 0 (take i flags) b
    ∙ ap (λ n. places_from 0 (take i flags) ++ if_marked b n) m

pub place_put : (flags : List Bool) (i : ℕ) (old new : List ℕ) → i < length flags → get_or flags i false ≡ true → old ≡ places_from 0 (take i flags) → new ≡ old ++ i ∷ [] → new ≡ places_from 0 (take (i + 1) flags)
place_put flags i old new l e before is = is ∙ ap (λ z. z ++ i ∷ []) before ∙ sym (next_place flags i true l e)

pub no_place : (flags : List Bool) (i : ℕ) (old : List ℕ) → i < length flags → get_or flags i false ≡ false → old ≡ places_from 0 (take i flags) → old ≡ places_from 0 (take (i + 1) flags)
no_place flags i old l e before = before ∙ sym (append-nil (places_from 0 (take i flags))) ∙ sym (next_place flags i false l e)

-- one item more
pub next_taken : {A : Type 0} (xs : List A) (i : ℕ) → take (i + 1) xs ≡ take i xs ++ with_first (slice_get xs i) []
next_taken [] zero = refl
next_taken {A = A} [] (suc i) = let e : suc i + 1 ≡ suc (i + 1) = omega arith in ap (λ n. take {A = A} n []) e
next_taken (x ∷ xs) zero = refl
next_taken (x ∷ xs) (suc i) = let e : suc i + 1 ≡ suc (i + 1) = omega arith in ap (λ n. take n (x ∷ xs)) e ∙ ap (λ z. x ∷ z) (next_taken xs i)

pub taken_next : {A : Type 0} (xs : List A) (i : ℕ) (old new : List A) → old ≡ take i xs → new ≡ old ++ with_first (slice_get xs i) [] → new ≡ take (i + 1) xs
taken_next xs i old new before is = is ∙ ap (λ z. z ++ with_first (slice_get xs i) []) before ∙ sym (next_taken xs i)

-- one number more
only_then : {A : Type 0} (xs : List A) (ns : List ℕ) (m : ℕ) → only xs (ns ++ m ∷ []) ≡ only xs ns ++ with_first (slice_get xs m) []
only_then xs [] m = refl
only_then {A = A} xs (n ∷ ns) m = go (slice_get xs n) (only_then xs ns m)
  where
    go : (o : Option A) → only xs (ns ++ m ∷ []) ≡ only xs ns ++ with_first (slice_get xs m) [] → with_first o (only xs (ns ++ m ∷ [])) ≡ with_first o (only xs ns) ++ with_first (slice_get xs m) []
    go None again = again
    go (Some y) again = ap (λ z. y ∷ z) again

only_more : {A : Type 0} (xs : List A) (ns : List ℕ) (i d m : ℕ) → i < length ns → m ≡ get_or ns i d → only xs (take (i + 1) ns) ≡ only xs (take i ns) ++ with_first (slice_get xs m) []
only_more xs ns i d m l e = ap (only xs) (take_more ns i d l ∙ ap (λ z. take i ns ++ z ∷ []) (sym e)) ∙ only_then xs (take i ns) m

pub only_next : {A : Type 0} (xs : List A) (ns : List ℕ) (i d m : ℕ) (old new : List A) → i < length ns → m ≡ get_or ns i d → old ≡ only xs (take i ns) → new ≡ old ++ with_first (slice_get xs m) []
    → new ≡ only xs (take (i + 1) ns)
only_next xs ns i d m old new l e before is = is ∙ ap (λ z. z ++ with_first (slice_get xs m) []) before ∙ sym (only_more xs ns i d m l e)

pub mapped_next : {A B : Type 0} (f : A → B) (xs : List A) (ns : List ℕ) (i d m : ℕ) (old new : List B) → i < length ns → m ≡ get_or ns i d → old ≡ map f (only xs (take i ns))
    → new ≡ old ++ map f (with_first (slice_get xs m) []) → new ≡ map f (only xs (take (i + 1) ns))
mapped_next f xs ns i d m old new l e before is =
    is ∙ ap (λ z. z ++ map f (with_first (slice_get xs m) [])) before ∙ sym (map-append f (only xs (take i ns)) (with_first (slice_get xs m) []))
    ∙ ap (map f) (sym (only_more xs ns i d m l e))

pub only_all : {A : Type 0} (xs : List A) (ns all : List ℕ) (i : ℕ) → length ns ≤ i → ns ≡ all → only xs (take i ns) ≡ only xs all
only_all xs ns all i l e = ap (only xs) (take_all i ns l ∙ e)

-- the place at which a search found the number
pub found_place : (ns : List ℕ) (n i : ℕ) → IsStrictlyIncreasing ns → i < length ns → get_or ns i 0 ≡ n → i ≡ place ns n
found_place ns n i rise l e =
    let at : slice_get ns i ≡ Some n = slice_get-get_or ns i 0 l ∙ ap Some e in
    one_place ns (rising_differ ns rise) i (place ns n) n at (place_found ns n (at_place ns i n at))

-- a search among rising numbers that found none
pub missing_place : (ns : List ℕ) (n i : ℕ) → ((k : ℕ) → k < i → get_or ns k 0 < n) → ((k : ℕ) → i ≤ k → k < length ns → n < get_or ns k 0) → length ns ≡ place ns n
missing_place ns n i low high = sym (place_past ns n (λ c. (
    let (k, e) = place_in ns n c in
    let l = slice_get_within ns k n e in
    let g = get_or_from_slice_get ns k n 0 e in
    elim (cases_lt k i) [ inl m ↦ (let a = low k m in omega arith) | inr m ↦ (let a = high k (omega arith) l in omega arith) ]
    )))

pub rises_on : (ns : List ℕ) → IsStrictlyIncreasing ns → (i j : ℕ) → i ≤ j → j < length ns → get_or ns i 0 ≤ get_or ns j 0
rises_on ns r i j l m = elim (cases_lt i j) [
  | inl h ↦ (let f = AllPairs-from_increasing ns r i j 0 h m in omega (arith, f))
  | inr h ↦ (let e : i ≡ j = omega arith in let f = ap (λ k. get_or ns k 0) e in omega (arith, f))
]
