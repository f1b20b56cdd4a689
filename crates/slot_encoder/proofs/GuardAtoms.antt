-- The guard atoms of one more type.
use Rattle.std.proofs.Common.{ℕ, ◌+◌, ◌<◌, List, [], ◌∷◌, ◌++◌, map, length, take, get_or, refl, ap, sym, subst, ◌∙◌, append_assoc}
use Rattle.std.proofs.lemmas.List.{append-nil, take_more}
use Rattle.plan_model.specs.task_networks.Spelling.{numbers}
use Rattle.plan_model.specs.declared.terms.GroundAtom.{GroundAtom}
use Rattle.plan_model.specs.plan_meaning.Compilation.{Keeps}
use Rattle.plan_model.specs.plan_meaning.Network.{InTypeOf}
use Rattle.slot_encoding.specs.EncodedNames.{guard_predicate}
use Rattle.slot_encoding.specs.EncodedValue.{atom, AreGuardAtoms}
use Rattle.slot_encoder.specs.Made as made
use Rattle.slot_encoding.specs.declared.slot_declarations.frame.Frame.{Frame}

module _ (f : Frame) where
  pub guard_atoms_push : (tys : List ℕ) (ty : ℕ) (guards : List GroundAtom) (ms : List ℕ) → AreGuardAtoms f.compiled.now f.printed.now f.slots f.style tys guards → Keeps (λ o. InTypeOf f.compiled.now o ty) (numbers 0 (length f.compiled.now.hddl.objects)) ms
      → AreGuardAtoms f.compiled.now f.printed.now f.slots f.style (tys ++ ty ∷ []) (guards ++ map (atom (guard_predicate f.compiled.now ty)) ms)
  guard_atoms_push [] ty guards ms e k = (ms, [], k, ap (λ z. z ++ map (atom (guard_predicate f.compiled.now ty)) ms) e ∙ sym (append-nil (map (atom (guard_predicate f.compiled.now ty)) ms)), refl)
  guard_atoms_push (t ∷ tys) ty guards ms (first, rest, k, e, a) l = (
    first,
    rest ++ map (atom (guard_predicate f.compiled.now ty)) ms,
    k,
    ap (λ z. z ++ map (atom (guard_predicate f.compiled.now ty)) ms) e ∙ append_assoc (map (atom (guard_predicate f.compiled.now t)) first) rest (map (atom (guard_predicate f.compiled.now ty)) ms),
    guard_atoms_push tys ty rest ms a l,
  )

  -- the guard atoms of the next type
  pub guards_next : (xs : List ℕ) (i : ℕ) (old now new : List GroundAtom) → i < length xs → made.AddsGuardAtoms f (take i xs) old now → made.AddsMembers f (get_or xs i 0) now new
      → made.AddsGuardAtoms f (take (i + 1) xs) old new
  guards_next xs i old now new l (gs, a, e) (ms, k, g) =
      subst (λ tys. made.AddsGuardAtoms f tys old new) (sym (take_more xs i 0 l))
      (gs ++ map (atom (guard_predicate f.compiled.now (get_or xs i 0))) ms, guard_atoms_push (take i xs) (get_or xs i 0) gs ms a k, g ∙ ap (λ z. z ++ map (atom (guard_predicate f.compiled.now (get_or xs i 0))) ms) e ∙ append_assoc old gs (map (atom (guard_predicate f.compiled.now (get_or xs i 0))) ms))
