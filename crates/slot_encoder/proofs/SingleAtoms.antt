-- Atoms, each at its first place alone, as the list grows.
use Rattle.std.proofs.Common.{ℕ, ◌≡◌, ◌+◌, ◌<◌, Bool, true, false, not, cond, List, [], ◌∷◌, ◌++◌, take, length, get_or, refl, ap, sym, ◌∙◌, append_assoc}
use Rattle.std.proofs.lemmas.List.{take_more}
use Rattle.plan_model.specs.declared.terms.GroundAtom.{GroundAtom}
use Rattle.plan_model.specs.plan_meaning.Compilation.{once}
use Rattle.slot_encoding.specs.EncodedValue.{same_atom}
use Rattle.plan_model.proofs.plan_meaning.Once.{has, if_new, once-behind}

module _ (xs : List GroundAtom) (i : ℕ) (x : GroundAtom) (l : i < length xs) (is : x ≡ get_or xs i x) where
  pub single_next : (old now next : List GroundAtom) (there new : Bool) → now ≡ old ++ once same_atom (take i xs) → there ≡ has same_atom x (take i xs) → new ≡ not there
      → next ≡ now ++ cond new (x ∷ []) [] → next ≡ old ++ once same_atom (take (i + 1) xs)
  single_next old now next there new e t n f =
      f ∙ (ap (λ z. z ++ cond new (x ∷ []) []) e ∙ (append_assoc old (once same_atom (take i xs)) (cond new (x ∷ []) [])
      ∙ (ap (λ b. old ++ (once same_atom (take i xs) ++ cond b (x ∷ []) [])) (n ∙ ap not t) ∙ (ap (λ z. old ++ (once same_atom (take i xs) ++ z)) (turned (has same_atom x (take i xs)))
      ∙ (ap (λ z. old ++ z) (sym (once-behind same_atom (take i xs) x)) ∙ (ap (λ z. old ++ once same_atom (take i xs ++ z ∷ [])) is ∙ ap (λ z. old ++ once same_atom z) (sym (take_more xs i x l))))))))
    where
      turned : (b : Bool) → cond (not b) (x ∷ []) [] ≡ if_new same_atom b x
      turned true = refl
      turned false = refl
