-- Lists by their places, and two lists place by place.
use Rattle.std.proofs.Common.{ℕ, zero, suc, ◌≡◌, ◌+◌, List, [], ◌∷◌, ◌++◌, map, take, Option, Some, None, slice_get, refl, ap, subst, sym, ◌∙◌, Contains, arith}
use Rattle.std.specs.Prelude.{Result, Ok, Err, IsOkAnd, IfOk, IfErr}
use Rattle.std.specs.List.{AllZip}
use Rattle.std.specs.Option.{option_map}
use Rattle.std.proofs.lemmas.Option.{slice_get-map, same_Some}
use Rattle.htn_base.specs.Different.{AreDifferent}
use Rattle.slot_machine.proofs.bound_laws.FiniteBound.{at_contains}

pub map_get : {A B : Type 0} (f : A → B) (xs : List A) (i : ℕ) (y : B) → slice_get (map f xs) i ≡ Some y → (x : A) × (slice_get xs i ≡ Some x) × (f x ≡ y)
map_get {A = A} {B = B} f xs i y e = go (slice_get xs i) refl
  where
    go : (o : Option A) → slice_get xs i ≡ o → (x : A) × (slice_get xs i ≡ Some x) × (f x ≡ y)
    go None h = absurd (let a : None ≡ Some y = sym (slice_get-map f xs i ∙ ap (option_map f) h) ∙ e in cc)
    go (Some x) h = (x, h, same_Some (f x) y (sym (slice_get-map f xs i ∙ ap (option_map f) h) ∙ e))

-- of a list without repeats an element has one place
pub one_place : {A : Type 0} (xs : List A) (i j : ℕ) (x : A) → AreDifferent xs → slice_get xs i ≡ Some x → slice_get xs j ≡ Some x → i ≡ j
one_place [] i j x d e f = absurd cc
one_place (y ∷ xs) zero zero x d e f = refl
one_place (y ∷ xs) zero (suc j) x d e f = absurd (d.0 (subst (Contains xs) (let g : x ≡ y = cc in g) (at_contains xs j x f)))
one_place (y ∷ xs) (suc i) zero x d e f = absurd (d.0 (subst (Contains xs) (let g : x ≡ y = cc in g) (at_contains xs i x e)))
one_place (y ∷ xs) (suc i) (suc j) x d e f = ap suc (one_place xs i j x d.1 e f)

pub zip_at : {A B : Type 0} (R : A → B → Type 0) (xs : List A) (ys : List B) → AllZip R xs ys → (k : ℕ) (x : A) (y : B) → slice_get xs k ≡ Some x → slice_get ys k ≡ Some y → R x y
zip_at R [] ys z k x y e f = absurd cc
zip_at R (v ∷ xs) [] z k x y e f = absurd z
zip_at R (v ∷ xs) (w ∷ ys) z zero x y e f = subst (λ u. R u y) (let g : v ≡ x = cc in g) (subst (R v) (let h : w ≡ y = cc in h) z.0)
zip_at R (v ∷ xs) (w ∷ ys) z (suc k) x y e f = zip_at R xs ys z.1 k x y e f

zip_next : {A B : Type 0} (R : A → B → Type 0) (xs : List A) (ys : List B) (k : ℕ) (x : A) (y : B) → slice_get xs k ≡ Some x
    → AllZip R (take k xs) ys → R x y → AllZip R (take (suc k) xs) (ys ++ y ∷ [])
zip_next R [] ys k x y e z r = absurd cc
zip_next R (v ∷ xs) [] zero x y e z r = (subst (λ u. R u y) (let g : x ≡ v = cc in g) r, tt)
zip_next R (v ∷ xs) (w ∷ ys) zero x y e z r = absurd z
zip_next R (v ∷ xs) [] (suc k) x y e z r = absurd z
zip_next R (v ∷ xs) (w ∷ ys) (suc k) x y e z r = (z.0, zip_next R xs ys k x y e z.1 r)

pub zip_more : {A B : Type 0} (R : A → B → Type 0) (xs : List A) (ys : List B) (k : ℕ) (x : A) (y : B) → slice_get xs k ≡ Some x
    → AllZip R (take k xs) ys → R x y → AllZip R (take (k + 1) xs) (ys ++ y ∷ [])
zip_more R xs ys k x y e z r = subst (λ n. AllZip R (take n xs) (ys ++ y ∷ [])) (let n : suc k ≡ k + 1 = omega arith in n) (zip_next R xs ys k x y e z r)

pub zip_map : {A B C : Type 0} (R : B → C → Type 0) (f : A → B) (xs : List A) (ys : List C) → AllZip (λ x y. R (f x) y) xs ys → AllZip R (map f xs) ys
zip_map R f [] [] z = z
zip_map R f [] (y ∷ ys) z = z
zip_map R f (x ∷ xs) [] z = z
zip_map R f (x ∷ xs) (y ∷ ys) z = (z.0, zip_map R f xs ys z.1)

-- a loop's step, where what was made is put to the end
pub zip_put : {A B E : Type 0} (R : A → B → Type 0) (xs : List A) (ys new : List B) (k : ℕ) (x : A) (made : Result B E) → slice_get xs k ≡ Some x
    → AllZip R (take k xs) ys → IsOkAnd made (λ y. new ≡ ys ++ y ∷ []) → IfOk made (R x) → AllZip R (take (k + 1) xs) new
zip_put R xs ys new k x (Ok y) e z p r = subst (AllZip R (take (k + 1) xs)) (sym p) (zip_more R xs ys k x y e z r)
zip_put R xs ys new k x (Err m) e z p r = absurd p

pub if_ok_then : {A E : Type 0} (made : Result A E) (P Q : A → Type 0) → ((x : A) → P x → Q x) → IfOk made P → IfOk made Q
if_ok_then (Ok x) P Q f p = f x p
if_ok_then (Err m) P Q f p = tt

pub if_err_then : {A E : Type 0} (made : Result A E) (P Q : E → Type 0) → ((x : E) → P x → Q x) → IfErr made P → IfErr made Q
if_err_then (Ok x) P Q f p = tt
if_err_then (Err m) P Q f p = f m p
