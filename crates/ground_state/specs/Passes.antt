-- Effects without conditions, and what a pass over what one adds, or deletes, does to a state.
-- Source: this project's; an effect as in Truth.
use Rattle.std.specs.Prelude.{ℕ, ◌≡◌, ◌≤◌, ◌⊎◌, ◌++◌, ◌∷◌, [], Bool, true, false, not, IsSome, List, length}
use Rattle.plan_model.specs.declared.terms.Atom.{Atom}
use Rattle.plan_model.specs.declared.terms.GroundAtom.{GroundAtom}
use Rattle.plan_model.specs.declared.effects.Effect.{Effect}
use Rattle.plan_model.specs.declared.effects.Effect.TheFolds.{rec-Effect}
use Rattle.plan_model.specs.declared.effects.Effect.TheOpen.{Effect-F}
use Rattle.plan_model.specs.declared.effects.Effect.TheVariants as E
use Rattle.plan_model.specs.plan_meaning.Truth as truth
use Rattle.problem_index.specs.declared.domain.Domain.{Domain}
use Rattle.problem_index.specs.Domains.{IsIn}
use Rattle.ground_state.specs.declared.state.State.{State}
use Rattle.ground_state.specs.declared.passes.Pass.{Pass}
use Rattle.ground_state.specs.declared.passes.Pass.TheVariants as passes
use Rattle.ground_state.specs.Frames.{Frame}
use Rattle.ground_state.specs.Room.{EachFits}
use Rattle.ground_state.specs.States.{note_of, atoms, Has, IsSame, KeepsNotes}

-- one level of an effect without conditions, for the atoms of which n arguments are enough
abbrev pub plain_step : {X : Type 0} → (X → ℕ → Type 0) → Effect-F X → ℕ → Type 0
plain_step k (Effect-F.Add a) n = length a.args ≤ n
plain_step k (Effect-F.Delete a) n = length a.args ≤ n
plain_step k (Effect-F.And es) n = EachFits k es n
plain_step k (Effect-F.Forall ps e) n = k e n
plain_step k (Effect-F.When f e) n = ⊥

abbrev pub plain : Effect → ℕ → Type 0
plain = rec-Effect (ℕ → Type 0) (λ X v k layer. plain_step k layer)

-- the effect is without conditions, and the environment has room for its atoms
abbrev pub IsPlain : Frame → Effect → Type 0
IsPlain env e = plain e env.arity

abbrev pub ArePlain : Frame → List Effect → Type 0
ArePlain env es = EachFits plain es env.arity

-- the atom is added, or deleted
abbrev pub literal : Bool → Atom → Effect
literal true a = E.Add a
literal false a = E.Delete a

-- whether the pass is over what is added
abbrev pub of_adds : Pass → Bool
of_adds passes.Enter = true
of_adds passes.Deny = false
of_adds passes.Affirm = true
of_adds passes.Forget = false

-- it does nothing with what the effect touches: the effect is a literal of the other sort
abbrev pub IsIdle : Pass → Effect → Type 0
IsIdle pass e = (a : Atom) × (e ≡ literal (not (of_adds pass)) a)

-- something is noted of each atom that is as P says
abbrev pub AreAllNoted : truth.State → State → Type 0
AreAllNoted P s = (g : GroundAtom) → P g → IsSome (note_of s g)

-- what a pass over the atoms that are as P says does
abbrev pub Passes : Pass → truth.State → State → State → Type 0
Passes passes.Enter P old new = IsSame old new × (KeepsNotes old new × AreAllNoted P new)
Passes passes.Deny P old new = Has new (λ g. atoms old g × (P g → ⊥)) × KeepsNotes old new
Passes passes.Affirm P old new = (AreAllNoted P old → Has new (λ g. atoms old g ⊎ P g)) × KeepsNotes old new
Passes passes.Forget P old new = IsSame old new

-- it is the pass that needs memory, and the state is as it was
abbrev pub HasOnlyEntered : Pass → State → State → Type 0
HasOnlyEntered pass old new = (pass ≡ passes.Enter) × IsSame old new

-- the atom, with some object of the domain for one more variable
abbrev pub IsWithOne : Domain → Atom → List ℕ → truth.State
IsWithOne d a values g = (x : ℕ) × IsIn d x × (g ≡ truth.ground (values ++ x ∷ []) a)

-- the effect deletes an atom, and what it deletes with an object of the domain for one more variable has become false
abbrev pub HasDenied : Pass → Domain → Effect → List ℕ → State → State → Type 0
HasDenied pass d e values old new = (pass ≡ passes.Deny) × ((a : Atom) × (e ≡ literal false a) × Passes passes.Deny (IsWithOne d a values) old new)
