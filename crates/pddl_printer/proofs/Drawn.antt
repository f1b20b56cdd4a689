-- What is drawn with each word.
use Rattle.std.proofs.Common.{ℕ, ◌≡◌, List, [], ◌∷◌, ◌++◌, subst, ap, sym, ◌∙◌, append_assoc}
use Rattle.std.proofs.lemmas.List.{append-nil}
use Rattle.pddl_printer.specs.Behind.{of_each}
use Rattle.pddl_printer.specs.Drawings.{Composes}
use Rattle.pddl_printer.proofs.Each.{of_each-append}

pub drawn-as : {S : Type 0} (draws : (List ℕ → List ℕ) → List ℕ → S → S → Type 0) {f g : List ℕ → List ℕ} {word : List ℕ} {s t : S} → ((w : List ℕ) → f w ≡ g w) → draws f word s t → draws g word s t
drawn-as draws {word = word} {s = s} {t = t} e d = subst (λ h. draws h word s t) (λ i w. e w i) d

pub drawn-both : {S : Type 0} (draws : (List ℕ → List ℕ) → List ℕ → S → S → Type 0) → Composes draws → {f g : List ℕ → List ℕ} {word : List ℕ} {s t u : S} → draws f word s t → draws g word t u → draws (λ w. f w ++ g w) word s u
drawn-both draws composes {f = f} {g = g} {word = word} {s = s} {t = t} {u = u} v w = composes f g word s t u v w

-- one place more, and nothing behind it yet
pub place-more : {X : Type 0} (f : X → List ℕ) (word : List ℕ) (xs : List X) (x : X) → of_each (λ y. f y ++ word) (xs ++ x ∷ []) ++ [] ≡ (of_each (λ y. f y ++ word) xs ++ f x) ++ word
place-more {X = X} f word xs x =
    let g : X → List ℕ = λ y. f y ++ word in
    append-nil (of_each g (xs ++ x ∷ [])) ∙ of_each-append g xs (x ∷ []) ∙ ap (λ z. of_each g xs ++ z) (append-nil (f x ++ word)) ∙ sym (append_assoc (of_each g xs) (f x) word)
