-- Numbers and words that differ.
use Rattle.std.proofs.Common.{ℕ, ◌≡◌, ◌<◌, ◌==◌, true, false, List, Some, ap, arith, eq-eqb, nat_lt}
use Rattle.plan_model.proofs.plan_meaning.examples.TruthExamples.{first_of}

pub less : (i j : ℕ) → i < j → j ≡ i → ⊥
less i j l e = omega arith

-- words with different first bytes
pub other_byte : (v w : List ℕ) → Some v ≡ Some w → (first_of v == first_of w) ≡ false → ⊥
other_byte v w e f =
    let g : v ≡ w = cc in
    let h : (first_of v == first_of w) ≡ true = eq-eqb (first_of v) (first_of w) (ap first_of g) in
    absurd cc

pub lt_to : (a b : ℕ) → nat_lt a b ≡ true → a < b
lt_to a b e = grind (arith, e)

pub to_lt : (a b : ℕ) → a < b → nat_lt a b ≡ true
to_lt a b l = grind (arith, l)
