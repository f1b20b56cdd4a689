-- What stands at a place of lists that are joined, mapped or numbered.
use Rattle.std.proofs.Common.{ℕ, zero, suc, ◌≡◌, ◌+◌, ◌<◌, ◌⊎◌, inl, inr, List, [], ◌∷◌, ◌++◌, map, length, slice_get, Some, refl, ap, sym, ◌∙◌, Contains, arith}
use Rattle.plan_model.specs.task_networks.Spelling.{numbers}
use Rattle.plan_model.proofs.task_networks.Lists.{not-in_empty}

pub get_append_cases : {A : Type 0} (xs ys : List A) (k : ℕ) (z : A) → slice_get (xs ++ ys) k ≡ Some z → (slice_get xs k ≡ Some z) ⊎ ((j : ℕ) × (k ≡ length xs + j) × (slice_get ys j ≡ Some z))
get_append_cases [] ys k z e = inr (k, omega arith, e)
get_append_cases (x ∷ xs) ys zero z e = inl e
get_append_cases (x ∷ xs) ys (suc k) z e = elim (get_append_cases xs ys k z e) [ inl f ↦ inl f | inr (j, f, g) ↦ inr (j, omega arith, g) ]

pub get_left : {A : Type 0} (xs ys : List A) (k : ℕ) (z : A) → slice_get xs k ≡ Some z → slice_get (xs ++ ys) k ≡ Some z
get_left [] ys k z e = absurd cc
get_left (x ∷ xs) ys zero z e = e
get_left (x ∷ xs) ys (suc k) z e = get_left xs ys k z e

pub get_right : {A : Type 0} (xs ys : List A) (j : ℕ) (z : A) → slice_get ys j ≡ Some z → slice_get (xs ++ ys) (length xs + j) ≡ Some z
get_right [] ys j z e = let f : j ≡ 0 + j = omega arith in ap (slice_get ys) (sym f) ∙ e
get_right (x ∷ xs) ys j z e = let f : suc (length xs + j) ≡ suc (length xs) + j = omega arith in ap (slice_get (x ∷ (xs ++ ys))) (sym f) ∙ get_right xs ys j z e

pub get_map_cases : {A B : Type 0} (f : A → B) (xs : List A) (k : ℕ) (y : B) → slice_get (map f xs) k ≡ Some y → (x : A) × (slice_get xs k ≡ Some x) × (f x ≡ y)
get_map_cases f [] k y e = absurd cc
get_map_cases f (x ∷ xs) zero y e = (x, refl, cc)
get_map_cases f (x ∷ xs) (suc k) y e = get_map_cases f xs k y e

pub get_to_map : {A B : Type 0} (f : A → B) (xs : List A) (k : ℕ) (x : A) → slice_get xs k ≡ Some x → slice_get (map f xs) k ≡ Some (f x)
get_to_map f [] k x e = absurd cc
get_to_map f (y ∷ xs) zero x e = let g : y ≡ x = cc in ap (λ z. Some (f z)) g
get_to_map f (y ∷ xs) (suc k) x e = get_to_map f xs k x e

pub get_numbers : (i n k x : ℕ) → slice_get (numbers i n) k ≡ Some x → (x ≡ i + k) × (k < n)
get_numbers i zero k x e = absurd cc
get_numbers i (suc n) zero x e = let f : i ≡ x = cc in (omega arith, omega arith)
get_numbers i (suc n) (suc k) x e = let (f, l) = get_numbers (suc i) n k x e in (omega arith, omega arith)

pub to_get_numbers : (i n k : ℕ) → k < n → slice_get (numbers i n) k ≡ Some (i + k)
to_get_numbers i zero k l = absurd (omega arith)
to_get_numbers i (suc n) zero l = let f : i ≡ i + 0 = omega arith in ap Some f
to_get_numbers i (suc n) (suc k) l = let f : suc i + k ≡ i + suc k = omega arith in to_get_numbers (suc i) n k (omega arith) ∙ ap Some f

pub get_within : {A : Type 0} (xs : List A) (k : ℕ) (x : A) → slice_get xs k ≡ Some x → k < length xs
get_within [] k x e = absurd cc
get_within (y ∷ xs) zero x e = omega arith
get_within (y ∷ xs) (suc k) x e = let h = get_within xs k x e in omega arith

pub within_get : {A : Type 0} (xs : List A) (k : ℕ) → k < length xs → (x : A) × (slice_get xs k ≡ Some x)
within_get [] k l = absurd (omega arith)
within_get (y ∷ xs) zero l = (y, refl)
within_get (y ∷ xs) (suc k) l = within_get xs k (omega arith)

pub get_contains : {A : Type 0} (xs : List A) (k : ℕ) (x : A) → slice_get xs k ≡ Some x → Contains xs x
get_contains [] k x e = absurd cc
get_contains (y ∷ xs) zero x e = (0, omega arith, cc)
get_contains (y ∷ xs) (suc k) x e = let (j, l, f) = get_contains xs k x e in (suc j, omega arith, f)

pub contains_get : {A : Type 0} (xs : List A) (x : A) → Contains xs x → (k : ℕ) × (slice_get xs k ≡ Some x)
contains_get [] x c = absurd (not-in_empty x c)
contains_get (y ∷ xs) x (zero, l, e) = (0, ap Some e)
contains_get (y ∷ xs) x (suc j, l, e) = let (k, f) = contains_get xs x (j, omega arith, e) in (suc k, f)

pub length-joined : {A : Type 0} (xs ys : List A) → length (xs ++ ys) ≡ length xs + length ys
length-joined [] ys = omega arith
length-joined (x ∷ xs) ys = let h = length-joined xs ys in omega arith

-- two lists of as many items, each with another list behind it
pub append_same : {A : Type 0} (xs ys us vs : List A) → length xs ≡ length us → xs ++ ys ≡ us ++ vs → (xs ≡ us) × (ys ≡ vs)
append_same [] ys [] vs l e = (refl, e)
append_same [] ys (u ∷ us) vs l e = absurd (omega arith)
append_same (x ∷ xs) ys [] vs l e = absurd (omega arith)
append_same (x ∷ xs) ys (u ∷ us) vs l e = let (f, g) = append_same xs ys us vs (omega arith) cc in let h : x ≡ u = cc in (cc, g)
