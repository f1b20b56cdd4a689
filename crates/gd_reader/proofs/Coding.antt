-- Atoms and the rows of numbers that stand for them.
use Rattle.std.proofs.Common.{ℕ, zero, suc, ◌≡◌, ◌≤◌, ◌+◌, ◌*◌, ◌%◌, ◌^◌, List, [], ◌∷◌, ◌++◌, length, drop, take, Some, None}
use Rattle.std.proofs.Common.{slice_get, refl, sym, ap, subst, ◌∙◌, arith}
use Rattle.std.proofs.lemmas.List.{take_all}
use Rattle.htn_base.specs.Packed.{row_of}
use Rattle.gd_reader.specs.declared.term.RawAtom.{RawAtom}
use Rattle.gd_reader.specs.declared.term.RawTerm.{RawTerm}
use Rattle.gd_reader.specs.RawRows.{term_coded, terms_coded, atom_coded}

abbrev atom : RawTerm → List RawTerm → RawAtom
atom head args = record { head = head; args = args }

terms_push : (from : ℕ) (numbers : List ℕ) (k away code : ℕ) → length numbers ≡ k * 2
    → terms_coded from ((numbers ++ away ∷ []) ++ code ∷ []) ≡ terms_coded from numbers ++ term_coded ((from + away) % 2 ^ 32) code ∷ []
terms_push from [] k away code even = refl
terms_push from (a ∷ []) k away code even = absurd (omega (arith, even))
terms_push from (a ∷ b ∷ numbers) zero away code even = absurd (omega (arith, even))
terms_push from (a ∷ b ∷ numbers) (suc k) away code even =
    let rest = terms_push from numbers k away code (omega (arith, even)) in
    ap (λ terms. term_coded ((from + a) % 2 ^ 32) b ∷ terms) rest

-- the numbers of an atom and of one more term
pub atom_push : (from : ℕ) (numbers : List ℕ) (k away code : ℕ) (head term : RawTerm) (args : List RawTerm)
    → length numbers ≡ k * 2 + 1 → atom_coded (row_of from numbers) ≡ atom head args
    → (from + away) % 2 ^ 32 ≡ term.at → term_coded term.at code ≡ term
    → atom_coded (row_of from ((numbers ++ away ∷ []) ++ code ∷ [])) ≡ atom head (args ++ term ∷ [])
atom_push from [] k away code head term args odd is at coded = absurd (omega (arith, odd))
atom_push from (first ∷ numbers) k away code head term args odd is at coded =
    let put = terms_push from numbers k away code (omega (arith, odd)) in
    let last = ap (λ at. term_coded at code) at ∙ coded in
    let heads = ap (λ (a : RawAtom). a.head) is in
    let olds = ap (λ (a : RawAtom). a.args) is in
    let all = put ∙ (λ i. olds i ++ last i ∷ []) in
    λ i. atom (heads i) (all i)

term_missing : (from : ℕ) (numbers : List ℕ) (j : ℕ) → length numbers ≤ j * 2 + 1 → None ≡ slice_get (terms_coded from numbers) j
term_missing from [] j past = refl
term_missing from (a ∷ []) j past = refl
term_missing from (a ∷ b ∷ numbers) zero past = absurd (omega (arith, past))
term_missing from (a ∷ b ∷ numbers) (suc j) past = term_missing from numbers j (omega (arith, past))

-- no term stands where a number of it is missing
pub no_term : (from : ℕ) (numbers : List ℕ) (j : ℕ) → length numbers ≤ j * 2 + 2 → None ≡ slice_get (terms_coded from (drop 1 numbers)) j
no_term from [] j past = refl
no_term from (first ∷ numbers) j past = term_missing from numbers j (omega (arith, past))

term_there : (from : ℕ) (numbers : List ℕ) (j k away code : ℕ) → k ≡ j * 2
    → slice_get numbers k ≡ Some away → slice_get numbers (suc k) ≡ Some code
    → Some (term_coded ((from + away) % 2 ^ 32) code) ≡ slice_get (terms_coded from numbers) j
term_there from [] j k away code is a c = absurd (cc a)
term_there from (x ∷ []) j zero away code is a c = absurd (cc c)
term_there from (x ∷ []) j (suc k) away code is a c = absurd (cc a)
term_there from (x ∷ y ∷ numbers) zero zero away code is a c = cc
term_there from (x ∷ y ∷ numbers) zero (suc k) away code is a c = absurd (omega (arith, is))
term_there from (x ∷ y ∷ numbers) (suc j) zero away code is a c = absurd (omega (arith, is))
term_there from (x ∷ y ∷ numbers) (suc j) (suc zero) away code is a c = absurd (omega (arith, is))
term_there from (x ∷ y ∷ numbers) (suc j) (suc (suc k)) away code is a c = term_there from numbers j k away code (omega (arith, is)) a c

-- the term of two numbers of a row
pub term_read : (from : ℕ) (numbers : List ℕ) (j away code : ℕ)
    → slice_get numbers (j * 2 + 1) ≡ Some away → slice_get numbers (j * 2 + 2) ≡ Some code
    → Some (term_coded ((from + away) % 2 ^ 32) code) ≡ slice_get (terms_coded from (drop 1 numbers)) j
term_read from [] j away code a c = absurd (cc a)
term_read from (first ∷ numbers) j away code a c =
    let one : j * 2 + 1 ≡ suc (j * 2) = omega arith in
    let two : j * 2 + 2 ≡ suc (suc (j * 2)) = omega arith in
    term_there from numbers j (j * 2) away code refl
    (subst (λ n. slice_get (first ∷ numbers) n ≡ Some away) one a) (subst (λ n. slice_get (first ∷ numbers) n ≡ Some code) two c)

-- a term for each two numbers behind the first
pub few_terms : (from : ℕ) (numbers : List ℕ) → length (terms_coded from (drop 1 numbers)) * 2 ≤ length numbers
few_terms from [] = omega arith
few_terms from (first ∷ numbers) = let few = of from numbers in omega (arith, few)
  where
    of : (from : ℕ) (numbers : List ℕ) → length (terms_coded from numbers) * 2 ≤ length numbers
    of from [] = omega arith
    of from (a ∷ []) = omega arith
    of from (a ∷ b ∷ numbers) = let few = of from numbers in omega (arith, few)

-- past the end nothing more is taken
pub take_past : (terms : List RawTerm) (j : ℕ) → length terms ≤ j → take (j + 1) terms ≡ take j terms
take_past terms j past = take_all (j + 1) terms (omega (arith, past)) ∙ sym (take_all j terms past)
