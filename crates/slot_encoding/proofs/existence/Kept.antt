-- What is decided of each item is kept of a list; so there are the atoms of guards.
use Rattle.std.proofs.Common.{ℕ, inl, inr, List, [], ◌∷◌, ◌++◌, map, length, refl}
use Rattle.plan_model.specs.declared.options.Style.{Style}
use Rattle.plan_model.specs.declared.terms.GroundAtom.{GroundAtom}
use Rattle.plan_model.specs.declared.values.Compiled.{Compiled}
use Rattle.plan_model.specs.task_networks.Spelling.{numbers}
use Rattle.plan_model.specs.plan_meaning.Compilation.{Keeps}
use Rattle.plan_model.specs.plan_meaning.Network.{InTypeOf}
use Rattle.slot_encoding.specs.EncodedNames.{guard_predicate}
use Rattle.slot_encoding.specs.EncodedValue.{atom, AreGuardAtoms}
use Rattle.slot_encoding.proofs.existence.InTypes.{in_type_decided}

some_kept : {A : Type 0} (P : A → Type 0) → ((x : A) → Dec (P x)) → (xs : List A) → (kept : List A) × Keeps P xs kept
some_kept P decide [] = ([], refl)
some_kept {A = A} P decide (x ∷ xs) = go (decide x) (some_kept P decide xs)
  where
    go : Dec (P x) → (kept : List A) × Keeps P xs kept → (kept : List A) × Keeps P (x ∷ xs) kept
    go (yes p) (rest, k) = (x ∷ rest, inl (p, rest, refl, k))
    go (no n) (rest, k) = (rest, inr (n, k))

pub some_guard_atoms : (c : Compiled) (names : List (List ℕ)) (b : ℕ) (style : Style) (tys : List ℕ) → (atoms : List GroundAtom) × AreGuardAtoms c names b style tys atoms
some_guard_atoms c names b style [] = ([], refl)
some_guard_atoms c names b style (ty ∷ tys) =
    let (members, k) = some_kept (λ o. InTypeOf c o ty) (λ o. in_type_decided c.hddl.types c.hddl.objects o ty) (numbers 0 (length c.hddl.objects)) in
    let (rest, a) = some_guard_atoms c names b style tys in
    (map (atom (guard_predicate c ty)) members ++ rest, (members, rest, k, refl, a))
