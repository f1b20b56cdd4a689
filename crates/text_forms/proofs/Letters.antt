-- The words of a text are letters in lower case.
use Rattle.std.proofs.Common.{◌≡◌, ◌∙◌, ℕ, zero, suc, ◌+◌, ◌-◌, ◌≤◌, ◌<◌, ◌⊎◌, inl, inr, Bool, true, false, ◌||◌, ◌==◌, if◌then◌else◌, Some, List, [], ◌∷◌, take, drop, slice_get, refl, sym, ap, subst, arith}
use Rattle.std.specs.Char.{to_ascii_lowercase}
use Rattle.std.specs.List.{slice_range}
use Rattle.std.proofs.lemmas.Bool.{cases_lt, and_from}
use Rattle.std.proofs.lemmas.Str.Ascii.{lowercase_is, lowercase-lowercase}
use Rattle.htn_base.specs.Words.{folded}
use Rattle.text_forms.specs.Bytes.{blank, opening, closing, letter, bad, is_letter, is_white, class_of, class_in, comment_after, classes_from}
use Rattle.text_forms.specs.LongestRuns.{IsLongestRun}
use Rattle.text_forms.specs.Printing.{are_folded}

-- an item behind the first n
pub from_drop : {X : Type 0} (n : ℕ) (all : List X) (i : ℕ) → slice_get all (n + i) ≡ slice_get (drop n all) i
from_drop zero all i = let e : 0 + i ≡ i = omega arith in ap (slice_get all) e
from_drop (suc n) [] i = let e : suc n + i ≡ suc (n + i) = omega arith in ap (slice_get []) e
from_drop (suc n) (x ∷ all) i = let e : suc n + i ≡ suc (n + i) = omega arith in ap (slice_get (x ∷ all)) e ∙ from_drop n all i

-- each of these bytes may stand in a word
abbrev AreLetters : List ℕ → Type 0
AreLetters w = (k b : ℕ) → slice_get w k ≡ Some b → is_letter b ≡ true

of_class : (b : ℕ) → class_of b ≡ letter → is_letter b ≡ true
of_class b = go (is_letter b) (b == 40) (b == 41) (is_white b || b == 59)
  where
    go : (w x y z : Bool) → (if w then letter else (if x then opening else (if y then closing else (if z then blank else bad)))) ≡ letter → w ≡ true
    go true x y z e = refl
    go false true y z e = cc
    go false false true z e = cc
    go false false false true e = cc
    go false false false false e = cc

in_class : (c : Bool) (b : ℕ) → class_in c b ≡ letter → is_letter b ≡ true
in_class true b e = cc
in_class false b e = of_class b e

classed : (c : Bool) (text : List ℕ) (k b : ℕ) → slice_get (classes_from c text) k ≡ Some letter → slice_get text k ≡ Some b → is_letter b ≡ true
classed c [] k b e f = cc
classed c (x ∷ text) zero b e f = let s : x ≡ b = cc in subst (λ b. is_letter b ≡ true) s (in_class c x (let g : class_in c x ≡ letter = cc in g))
classed c (x ∷ text) (suc k) b e f = classed (comment_after c x) text k b e f

-- within the first of a list
get_take : (n k b : ℕ) (xs : List ℕ) → slice_get (take n xs) k ≡ Some b → (k < n) × (slice_get xs k ≡ Some b)
get_take zero k b xs e = cc
get_take (suc n) k b [] e = cc
get_take (suc n) zero b (x ∷ xs) e = (omega arith, e)
get_take (suc n) (suc k) b (x ∷ xs) e = let r = get_take n k b xs e in let l = r.0 in (omega arith, r.1)

lower_letter : (b : ℕ) → is_letter b ≡ true → is_letter (to_ascii_lowercase b) ≡ true
lower_letter b e = go (cases_lt b 65) (cases_lt 90 b)
  where
    go : (b < 65) ⊎ (65 ≤ b) → (90 < b) ⊎ (b ≤ 90) → is_letter (to_ascii_lowercase b) ≡ true
    go (inl l) m = subst (λ x. is_letter x ≡ true) (sym ((lowercase_is b).1 l)) e
    go (inr l) (inl m) = subst (λ x. is_letter x ≡ true) (sym ((lowercase_is b).2 m)) e
    go (inr l) (inr m) = subst (λ x. is_letter x ≡ true) (sym ((lowercase_is b).0 (l, m))) (search arith)

same : (n : ℕ) → (n == n) ≡ true
same n = search arith

folds : (w : List ℕ) → AreLetters w → are_folded (folded w) ≡ true
folds [] h = refl
folds (b ∷ w) h =
    and_from _ _ (and_from _ _ (lower_letter b (h 0 b refl)) (ap (λ x. x == to_ascii_lowercase b) (lowercase-lowercase b) ∙ same (to_ascii_lowercase b)))
    (folds w (λ k x e. h (suc k) x e))

pub run_folds : (text : List ℕ) (first behind : ℕ) → IsLongestRun text first behind → are_folded (folded (slice_range text first behind)) ≡ true
run_folds text first behind run = folds (slice_range text first behind) (λ k b e.
    (let r = get_take (behind - first) k b (drop first text) e in
    let l = r.0 in
    classed false text (first + k) b (run.letters (first + k) (omega arith) (omega arith)) (from_drop first text k ∙ r.1)))
