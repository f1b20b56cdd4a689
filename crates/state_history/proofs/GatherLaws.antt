-- What an atom that is added, or deleted, does to the lists.
use Rattle.std.proofs.Common.{ℕ, ◌≡◌, ◌++◌, [], ◌∷◌, Bool, true, false, List, Result, Ok, Err, IfOk, IsOkAnd, refl, ap, sym, subst, ◌∙◌}
use Rattle.htn_base.specs.declared.memory.Memory.{Memory}
use Rattle.plan_model.specs.declared.terms.Atom.{Atom}
use Rattle.plan_model.specs.declared.terms.GroundAtom.{GroundAtom}
use Rattle.plan_model.specs.declared.effects.Effect.{Effect}
use Rattle.plan_model.specs.declared.effects.Effect.TheVariants as E
use Rattle.plan_model.specs.plan_meaning.Truth.{State, ground}
use Rattle.ground_state.specs.Search.{Gathers, Touches}
use Rattle.ground_state.proofs.GatherCases.{gathers-same, gathers-none, gathers-push, touches-Add, touches-Add-not, touches-Delete, touches-Delete-not}
use Rattle.state_history.specs.declared.gather.Touched.{Touched}
use Rattle.state_history.specs.Gathered.{side}

-- what was made is put
pub made-put : (made : Result GroundAtom Memory) (old new : List GroundAtom) (g : GroundAtom) → IsOkAnd made (λ x. new ≡ old ++ x ∷ []) → IfOk made (λ x. x ≡ g) → new ≡ old ++ g ∷ []
made-put (Ok x) old new g p e = p ∙ ap (λ y. old ++ y ∷ []) e
made-put (Err z) old new g p e = absurd p

module _ (InType : ℕ → ℕ → Type 0) (S : State) (v : List ℕ) (e : Effect) (a : Atom) (old new : Touched) where
  pub gathers-Add : e ≡ E.Add a → new.adds ≡ old.adds ++ ground v a ∷ [] → new.deletes ≡ old.deletes → (b : Bool) → Gathers (Touches InType S b e v) (side b old) (side b new)
  gathers-Add q p d true = gathers-same (λ g. g ≡ ground v a) (Touches InType S true e v) old.adds new.adds (touches-Add InType S v true e a q refl) (gathers-push old.adds new.adds (ground v a) p)
  gathers-Add q p d false = subst (Gathers (Touches InType S false e v) old.deletes) (sym d) (gathers-none (Touches InType S false e v) old.deletes (touches-Add-not InType S v false e a q refl))

  pub gathers-Delete : e ≡ E.Delete a → new.deletes ≡ old.deletes ++ ground v a ∷ [] → new.adds ≡ old.adds → (b : Bool) → Gathers (Touches InType S b e v) (side b old) (side b new)
  gathers-Delete q p d false = gathers-same (λ g. g ≡ ground v a) (Touches InType S false e v) old.deletes new.deletes (touches-Delete InType S v false e a q refl) (gathers-push old.deletes new.deletes (ground v a) p)
  gathers-Delete q p d true = subst (Gathers (Touches InType S true e v) old.adds) (sym d) (gathers-none (Touches InType S true e v) old.adds (touches-Delete-not InType S v true e a q refl))

-- from empty lists on
pub from-empty : (P : Bool → State) (old new : Touched) → old.adds ≡ [] → old.deletes ≡ [] → ((b : Bool) → Gathers (P b) (side b old) (side b new)) → (b : Bool) → Gathers (P b) [] (side b new)
from-empty P old new d e h true = subst (λ xs. Gathers (P true) xs new.adds) d (h true)
from-empty P old new d e h false = subst (λ xs. Gathers (P false) xs new.deletes) e (h false)
