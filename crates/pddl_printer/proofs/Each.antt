-- What is put on a sheet for each item of a list, one after another.
use Rattle.std.proofs.Common.{ℕ, ◌≡◌, ◌<◌, ◌≤◌, ◌+◌, zero, suc, List, [], ◌∷◌, ◌++◌, map, length, take, get_or, refl, ap, sym, ◌∙◌, append_assoc, arith}
use Rattle.std.proofs.lemmas.List.{append-nil}
use Rattle.std.proofs.Math.Seq.{take-suc}
use Rattle.text_forms.specs.Lists.{Part}
use Rattle.text_forms.specs.Printing.{bytes_behind, lines}
use Rattle.plan_texts.specs.Printed.{all_parts, typed_parts}
use Rattle.text_forms.specs.Words.{Word}
use Rattle.pddl_printer.specs.Behind.{behind, line, typed, of_each}
use Rattle.text_forms.specs.sheets.Sheets.{Wrote}
use Rattle.text_forms.specs.declared.sheets.sheet.Sheet.{Sheet}
use Rattle.text_forms.proofs.sheets.Written.{wrote-as, wrote-then}

pub of_each-append : {X : Type 0} (f : X → List ℕ) (xs ys : List X) → of_each f (xs ++ ys) ≡ of_each f xs ++ of_each f ys
of_each-append f [] ys = refl
of_each-append f (x ∷ xs) ys = ap (λ z. f x ++ z) (of_each-append f xs ys) ∙ sym (append_assoc (f x) (of_each f xs) (of_each f ys))

take-next : {X : Type 0} (xs : List X) (n : ℕ) (x : X) → n < length xs → x ≡ get_or xs n x → take (n + 1) xs ≡ take n xs ++ x ∷ []
take-next xs n x l e = let k : n + 1 ≡ suc n = omega arith in ap (λ m. take m xs) k ∙ take-suc xs n x l ∙ ap (λ y. take n xs ++ y ∷ []) (sym e)

pub each-more : {X : Type 0} (f : X → List ℕ) (xs : List X) (n : ℕ) (x : X) → n < length xs → x ≡ get_or xs n x → of_each f (take n xs) ++ f x ≡ of_each f (take (n + 1) xs)
each-more f xs n x l e = sym (ap (of_each f) (take-next xs n x l e) ∙ of_each-append f (take n xs) (x ∷ []) ∙ ap (λ z. of_each f (take n xs) ++ z) (append-nil (f x)))

-- one item more
pub each-next : {X : Type 0} (f : X → List ℕ) (xs : List X) (n : ℕ) (x : X) {s t u : Sheet} → n < length xs → x ≡ get_or xs n x → Wrote (of_each f (take n xs)) s t → Wrote (f x) t u → Wrote (of_each f (take (n + 1) xs)) s u
each-next f xs n x l e v w = wrote-as (each-more f xs n x l e) (wrote-then v w)

take-all : {X : Type 0} (xs : List X) (n : ℕ) → length xs ≤ n → take n xs ≡ xs
take-all [] zero l = refl
take-all [] (suc n) l = refl
take-all (x ∷ xs) zero l = absurd (omega arith)
take-all (x ∷ xs) (suc n) l = ap (λ z. x ∷ z) (take-all xs n (omega arith))

item : {X : Type 0} (xs : List X) (n : ℕ) (d e : X) → n < length xs → get_or xs n d ≡ get_or xs n e
item [] n d e l = absurd (omega arith)
item (x ∷ xs) zero d e l = refl
item (x ∷ xs) (suc n) d e l = item xs n d e (omega arith)

pub each-more-at : {X : Type 0} (f : X → List ℕ) (xs : List X) (n : ℕ) (d : X) → n < length xs → of_each f (take n xs) ++ f (get_or xs n d) ≡ of_each f (take (n + 1) xs)
each-more-at f xs n d l = each-more f xs n (get_or xs n d) l (item xs n d (get_or xs n d) l)

-- all items
pub each-all : {X : Type 0} (f : X → List ℕ) (xs : List X) (n : ℕ) → length xs ≤ n → of_each f (take n xs) ≡ of_each f xs
each-all f xs n l = ap (of_each f) (take-all xs n l)

pub each-done : {X : Type 0} (f : X → List ℕ) (xs : List X) (n : ℕ) {s t : Sheet} → length xs ≤ n → Wrote (of_each f (take n xs)) s t → Wrote (of_each f xs) s t
each-done f xs n l w = wrote-as (each-all f xs n l) w

pub behind-each : {X : Type 0} (f : X → Part) (xs : List X) → of_each (λ x. behind (f x)) xs ≡ bytes_behind (all_parts (map f xs))
behind-each f [] = refl
behind-each f (x ∷ xs) = ap (λ z. behind (f x) ++ z) (behind-each f xs)

pub typed-each : {X : Type 0} (f : X → Word × List Word) (xs : List X) → of_each (λ x. 32 ∷ typed (f x)) xs ≡ bytes_behind (typed_parts (map f xs))
typed-each f [] = refl
typed-each f (x ∷ xs) = ap (λ z. (32 ∷ typed (f x)) ++ z) (typed-each f xs) ∙ simp append_assoc

-- the same where the items are made of others
pub behind-each-made : {X Y : Type 0} (f : Y → Part) (g : X → Y) (xs : List X) → of_each (λ x. behind (f (g x))) xs ≡ bytes_behind (all_parts (map f (map g xs)))
behind-each-made f g [] = refl
behind-each-made f g (x ∷ xs) = ap (λ z. behind (f (g x)) ++ z) (behind-each-made f g xs)

pub lines-each-made : {X Y : Type 0} (f : Y → Part) (g : X → Y) (xs : List X) → of_each (λ x. line (f (g x))) xs ≡ lines (all_parts (map f (map g xs)))
lines-each-made f g [] = refl
lines-each-made f g (x ∷ xs) = append_assoc (behind (f (g x))) (10 ∷ []) (of_each (λ x. line (f (g x))) xs) ∙ ap (λ z. behind (f (g x)) ++ (10 ∷ z)) (lines-each-made f g xs)
