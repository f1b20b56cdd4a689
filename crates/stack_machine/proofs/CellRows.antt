-- The cells of a method's children stand in a row.
use Rattle.std.proofs.Common.{ℕ, zero, suc, ◌≡◌, ◌+◌, List, [], ◌∷◌, ◌++◌, length, map, reverse, refl, ap, sym, ◌∙◌, arith}
use Rattle.std.proofs.lemmas.List.{reverse-append, map-append}
use Rattle.plan_model.specs.task_networks.Net.{Net, count}
use Rattle.plan_model.specs.task_networks.Spelling.{numbers}
use Rattle.stack_machine.specs.Stack.{behind}
use Rattle.stack_machine.specs.StackLaws.{CellsAreInARow}
use Rattle.stack_machine.proofs.Heights.{at_cut, whole_length}

numbers-push : (h n : ℕ) → numbers h (suc n) ≡ numbers h n ++ (h + n) ∷ []
numbers-push h zero = ap (λ z. z ∷ []) (let e : h ≡ h + 0 = omega arith in e)
numbers-push h (suc n) = ap (λ z. h ∷ z) (numbers-push (suc h) n ∙ ap (λ z. numbers (suc h) n ++ z ∷ []) (let e : suc h + n ≡ h + suc n = omega arith in e))

in_row : (f : ℕ → ℕ) (h : ℕ) (line : List ℕ) → ((before rest : List ℕ) (i : ℕ) → line ≡ before ++ i ∷ rest → f i ≡ h + length rest) → map f (reverse line) ≡ numbers h (length line)
in_row f h [] each = refl
in_row f h (x ∷ line) each =
    ap (map f) (reverse-append (x ∷ []) line)
    ∙ map-append f (reverse line) (x ∷ [])
    ∙ ap (λ z. map f (reverse line) ++ z ∷ []) (each [] line x refl)
    ∙ ap (λ z. z ++ (h + length line) ∷ []) (in_row f h line (λ before rest i e. each (x ∷ before) rest i (ap (λ z. x ∷ z) e)))
    ∙ sym (numbers-push h (length line))

pub cells_are_in_a_row : (N : Net) → CellsAreInARow N
cells_are_in_a_row N m line h l =
    in_row (λ i. h + behind line i) h line (λ before rest i e. ap (λ z. h + z) (at_cut (N.Pair m) (count N m) line l before rest i e))
    ∙ ap (numbers h) (whole_length (N.Pair m) (count N m) line l)
