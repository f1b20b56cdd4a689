-- What an effect touches with the objects of a domain is what it touches with one more variable before the others.
use Rattle.std.proofs.Common.{ℕ, ◌≡◌, ◌<◌, ◌↔◌, ◌++◌, Bool, List, [], ◌∷◌, refl}
use Rattle.plan_model.specs.declared.terms.GroundAtom.{GroundAtom}
use Rattle.plan_model.specs.declared.terms.Param.{Param}
use Rattle.plan_model.specs.declared.effects.Effect.{Effect}
use Rattle.plan_model.specs.plan_meaning.Truth as truth
use Rattle.problem_index.specs.declared.domain.Domain.{Domain}
use Rattle.problem_index.specs.Domains.{places, IsIn}
use Rattle.ground_state.specs.Search.{TouchesWithin}
use Rattle.ground_state.proofs.DomainLaws.{AtPlace, at_some_place}
use Rattle.ground_state.proofs.GatherCases.{within-all}

pub within-domain : (I : ℕ → ℕ → Type 0) (S : truth.State) (v : List ℕ) (adds : Bool) (p : Param) (ps : List Param) (e : Effect) (d : Domain) (n count : ℕ) → n ≡ places d
    → ((x : ℕ) → IsIn d x ↔ I x p.ty) → ((x : ℕ) → I x p.ty → x < count) → (g : GroundAtom)
    → ((i : ℕ) × (i < n) × AtPlace d (λ o. TouchesWithin I S adds ps e (v ++ o ∷ []) g) i) ↔ TouchesWithin I S adds (p ∷ ps) e v g
within-domain I S v adds p ps e d n count end typed below g =
    let some = at_some_place d (λ o. TouchesWithin I S adds ps e (v ++ o ∷ []) g) n end in
    let all = within-all I S v adds p ps (p ∷ ps) e count refl below g in (
      λ t. let u = some.0 t in let i = (typed u.0).0 u.1 in all.0 (u.0, below u.0 i, (i, u.2)),
      λ t. let u = all.1 t in some.1 (u.0, (typed u.0).1 u.2.0, u.2.1),
    )
