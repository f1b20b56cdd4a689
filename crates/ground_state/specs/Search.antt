-- What a search for a part, or for objects, comes to, and what is gathered from an effect.
-- Source: this project's.
use Rattle.std.specs.Prelude.{ℕ, ◌≡◌, Bool, true, false, not, List, [], ◌∷◌, ◌++◌, ◌⊎◌, ◌↔◌, Contains, MatchBool}
use Rattle.std.specs.Bool.{beq}
use Rattle.plan_model.specs.declared.terms.Param.{Param}
use Rattle.plan_model.specs.declared.terms.Atom.{Atom}
use Rattle.plan_model.specs.declared.terms.GroundAtom.{GroundAtom}
use Rattle.plan_model.specs.declared.formulas.Formula.{Formula}
use Rattle.plan_model.specs.declared.formulas.Formula.TheVariants as F
use Rattle.plan_model.specs.declared.effects.Effect.{Effect}
use Rattle.plan_model.specs.plan_meaning.Truth.{State, ground, AreTyped, IsTrueIn, OneTrue, Adds, Deletes}
use Rattle.problem_index.specs.declared.domain.Domain.{Domain}
use Rattle.problem_index.specs.Domains.{IsWithSome}
use Rattle.ground_state.specs.declared.atom_list.AtomLists.{AtomLists}
use Rattle.ground_state.specs.declared.state.State as computed
use Rattle.ground_state.specs.States.{has_ground}

-- the statement is true, or it is not, as wanted
abbrev pub Is : Bool → Type 0 → Type 0
Is true P = P
Is false P = P → ⊥

module _ (Typed : ℕ → ℕ → Type 0) (S : State) (wanted : Bool) where
  -- one of the formulas is as wanted, or each is not
  abbrev pub IsAmongParts : Bool → List Formula → List ℕ → Type 0
  IsAmongParts found fs values = MatchBool found
      ((f : Formula) × Contains fs f × Is wanted (IsTrueIn Typed S f values))
      ((f : Formula) → Contains fs f → Is (not wanted) (IsTrueIn Typed S f values))

  -- for some objects of the types the formula is as wanted, or for each it is not
  abbrev pub IsFound : Bool → List Param → Formula → List ℕ → Type 0
  IsFound found ps f values = MatchBool found
      ((os : List ℕ) × AreTyped Typed ps os × Is wanted (IsTrueIn Typed S f (values ++ os)))
      ((os : List ℕ) → AreTyped Typed ps os → Is (not wanted) (IsTrueIn Typed S f (values ++ os)))

-- the atom is true, or it is not
abbrev pub literal : Bool → Atom → Formula
literal true a = F.Holds a
literal false a = F.Not (F.Holds a)

-- the formula is a literal, and with some object of the domain for one more variable it is as wanted, or with none
abbrev pub IsLiteralFound : Domain → computed.State → Bool → Formula → List ℕ → Bool → Type 0
IsLiteralFound d s wanted f values found = (sign : Bool) × (a : Atom) × (f ≡ literal sign a)
    × IsWithSome d (λ x. has_ground s (ground (values ++ x ∷ []) a)) (beq wanted sign) found

-- the new list has the atoms of the old one and those that are as P says
abbrev pub Gathers : State → List GroundAtom → List GroundAtom → Type 0
Gathers P old new = (g : GroundAtom) → Contains new g ↔ (Contains old g ⊎ P g)

-- the atoms that are added, or those that are deleted
abbrev pub side : Bool → AtomLists → List GroundAtom
side true lists = lists.adds
side false lists = lists.deletes

module _ (Typed : ℕ → ℕ → Type 0) (S : State) where
  -- what the effect adds, or deletes
  abbrev pub Touches : Bool → Effect → List ℕ → State
  Touches true = Adds Typed S
  Touches false = Deletes Typed S

  -- the same, of one of the effects, and of one with objects of the types
  abbrev pub OneTouches : Bool → List Effect → List ℕ → State
  OneTouches adds es values g = OneTrue (λ e v. Touches adds e v g) es values

  abbrev pub TouchesWithin : Bool → List Param → Effect → List ℕ → State
  TouchesWithin adds ps e values g = (os : List ℕ) × AreTyped Typed ps os × Touches adds e (values ++ os) g
