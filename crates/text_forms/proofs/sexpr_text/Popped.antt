-- What is popped off the open lists is the innermost of them.
use Rattle.std.proofs.Common.{◌≡◌, ℕ, ◌<◌, ◌++◌, ◌∷◌, [], List, Option, Some, None, length, reverse, refl, ap, sym, ◌∙◌, arith}
use Rattle.std.proofs.lemmas.Bool.{false≢true}
use Rattle.std.proofs.lemmas.List.{append-nil, reverse-append}
use Rattle.std.specs.Prelude.{◌↔◌, IsSome, option_to_list}
use Rattle.text_forms.specs.Faults.{innermost, but_innermost}

no_items : (xs : List ℕ) → (0 < length xs → ⊥) → xs ≡ []
no_items [] f = refl
no_items (x ∷ xs) f = absurd (f (omega arith))

pub popped : (n : ℕ) (old new : List ℕ) (o : Option ℕ) → length old ≡ n → old ≡ new ++ option_to_list o → (IsSome o ↔ (0 < n)) → (o ≡ innermost (reverse old)) × (reverse new ≡ but_innermost (reverse old))
popped n old new None l e s =
    let none : old ≡ [] = no_items old (λ some. false≢true (s.1 (omega arith))) in
    let left : new ≡ [] = sym (append-nil new) ∙ sym e ∙ none in
    (ap (λ xs. innermost (reverse xs)) (sym none), ap reverse left ∙ ap (λ xs. but_innermost (reverse xs)) (sym none))
popped n old new (Some x) l e s =
    let back : reverse old ≡ x ∷ reverse new = ap reverse e ∙ reverse-append new (x ∷ []) in
    (ap innermost (sym back), ap but_innermost (sym back))
