-- Lists of different elements: one element, one more, and parts.
use Rattle.std.proofs.Common.{ℕ, zero, suc, ◌≢◌, inl, inr, List, [], ◌∷◌, ◌++◌, take, drop, sym, ◌∙◌, subst, Contains, arith}
use Rattle.std.specs.List.{AllPairs}
use Rattle.std.proofs.lemmas.List.{get_or_default, take-append-drop}
use Rattle.std.proofs.lemmas.List.Elements.{Contains-append_left, Contains-append_cases}
use Rattle.htn_base.specs.Different.{AreDifferent}

pub different-one : {A : Type 0} (x : A) → AreDifferent (x ∷ [])
different-one x = (λ c. let l = c.1 in omega arith, tt)

-- one more element
pub different-push : {A : Type 0} (xs : List A) (x : A) → AreDifferent xs → (Contains xs x → ⊥) → AreDifferent (xs ++ x ∷ [])
different-push [] x d new = different-one x
different-push {A = A} (y ∷ ys) x d new = (λ c. elim (Contains-append_cases ys (x ∷ []) y c) [ inl k ↦ d.0 k | inr k ↦ last k ], different-push ys x d.1 (λ c. let l = c.1 in new (suc c.0, omega arith, c.2)))
  where
    last : Contains (x ∷ []) y → ⊥
    last (zero, l, e) = new (0, omega arith, sym e)
    last (suc k, l, e) = omega arith

-- a part of such a list
pub different-left : {A : Type 0} (xs ys : List A) → AreDifferent (xs ++ ys) → AreDifferent xs
different-left [] ys d = tt
different-left (x ∷ xs) ys d = (λ c. d.0 (Contains-append_left xs ys x c), different-left xs ys d.1)

pub different-right : {A : Type 0} (xs ys : List A) → AreDifferent (xs ++ ys) → AreDifferent ys
different-right [] ys d = d
different-right (x ∷ xs) ys d = different-right xs ys d.1

pub different-take : {A : Type 0} (n : ℕ) (xs : List A) → AreDifferent xs → AreDifferent (take n xs)
different-take n xs d = different-left (take n xs) (drop n xs) (subst AreDifferent (sym (take-append-drop n xs)) d)

-- of two places
pub different-places : {A : Type 0} (xs : List A) → AreDifferent xs → AllPairs (λ one other. one ≢ other) xs
different-places [] h j k d l m = absurd (omega arith)
different-places (x ∷ xs) h zero zero d l m = absurd (omega arith)
different-places (x ∷ xs) h zero (suc k) d l m = λ e. h.0 (k, omega arith, get_or_default xs k x d (omega arith) ∙ sym e)
different-places (x ∷ xs) h (suc j) zero d l m = absurd (omega arith)
different-places (x ∷ xs) h (suc j) (suc k) d l m = different-places xs h.1 j k d (omega arith) (omega arith)
