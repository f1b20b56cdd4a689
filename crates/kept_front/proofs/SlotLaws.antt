-- The heir's slot among the others.
use Rattle.std.proofs.Common.{ℕ, zero, suc, ◌≡◌, List, [], ◌∷◌, ◌++◌, take, drop, refl, ap}
use Rattle.std.specs.List.{insert}
use Rattle.slot_machine.specs.Machine.{insert_at}

taken_apart : (xs : List ℕ) (k x : ℕ) → take k xs ++ x ∷ drop k xs ≡ insert_at k x xs
taken_apart [] zero x = refl
taken_apart (y ∷ ys) zero x = refl
taken_apart [] (suc k) x = refl
taken_apart (y ∷ ys) (suc k) x = ap (λ z. y ∷ z) (taken_apart ys k x)

pub inserted : (xs : List ℕ) (k x : ℕ) → insert xs k x ≡ insert_at k x xs
inserted xs k x = taken_apart xs k x
