-- Truth of a formula in a state, and what an effect adds and deletes.
-- Source: Fox and Long, "PDDL2.1", JAIR 20, 2003, level 1, the semantics of states, goals and ground actions: closed world, typed quantifiers, conditional effects.
use Rattle.std.specs.Prelude.{ℕ, ◌≡◌, ◌⊎◌, ◌++◌, List, [], ◌∷◌, map, slice_index}
use Rattle.plan_model.specs.declared.terms.Term.{Term}
use Rattle.plan_model.specs.declared.terms.Term.TheVariants.{Var, Obj}
use Rattle.plan_model.specs.declared.terms.Atom.{Atom}
use Rattle.plan_model.specs.declared.terms.GroundAtom.{GroundAtom}
use Rattle.plan_model.specs.declared.terms.Param.{Param}
use Rattle.plan_model.specs.declared.formulas.Formula.{Formula}
use Rattle.plan_model.specs.declared.formulas.Formula.TheFolds.{rec-Formula}
use Rattle.plan_model.specs.declared.formulas.Formula.TheOpen.{Formula-F}
use Rattle.plan_model.specs.declared.effects.Effect.{Effect}
use Rattle.plan_model.specs.declared.effects.Effect.TheFolds.{rec-Effect}
use Rattle.plan_model.specs.declared.effects.Effect.TheOpen.{Effect-F}

-- a state: which ground atoms are true
abbrev pub State : Type 1
State = GroundAtom → Type 0

-- the object that a term stands for, where these are the objects of the variables in force
abbrev pub value_of : List ℕ → Term → ℕ
value_of values (Var k) = slice_index values k
value_of values (Obj o) = o

abbrev pub values_of : List ℕ → List Term → List ℕ
values_of values terms = map (value_of values) terms

abbrev pub ground : List ℕ → Atom → GroundAtom
ground values a = record { predicate = a.predicate; args = values_of values a.args }

abbrev pub EachTrue : {X : Type 0} → (X → List ℕ → Type 0) → List X → List ℕ → Type 0
EachTrue k [] values = Unit {0}
EachTrue k (x ∷ xs) values = k x values × EachTrue k xs values

abbrev pub OneTrue : {X : Type 0} → (X → List ℕ → Type 0) → List X → List ℕ → Type 0
OneTrue k [] values = ⊥
OneTrue k (x ∷ xs) values = k x values ⊎ OneTrue k xs values

-- InType o t: object o is in type t
module _ (InType : ℕ → ℕ → Type 0) where
  -- as many objects as parameters, each in its parameter's type
  abbrev pub AreTyped : List Param → List ℕ → Type 0
  AreTyped [] [] = Unit {0}
  AreTyped (p ∷ ps) (o ∷ os) = InType o p.ty × AreTyped ps os
  AreTyped [] (o ∷ os) = ⊥
  AreTyped (p ∷ ps) [] = ⊥

  module _ (S : State) where
    -- one level of a formula, where k is the truth of a part
    abbrev pub truth_step : {X : Type 0} → (X → List ℕ → Type 0) → Formula-F X → List ℕ → Type 0
    truth_step k (Formula-F.Holds a) values = S (ground values a)
    truth_step k (Formula-F.Equal s t) values = value_of values s ≡ value_of values t
    truth_step k (Formula-F.Not f) values = k f values → ⊥
    truth_step k (Formula-F.And fs) values = EachTrue k fs values
    truth_step k (Formula-F.Or fs) values = OneTrue k fs values
    truth_step k (Formula-F.Imply f g) values = k f values → k g values
    truth_step k (Formula-F.Forall ps f) values = (os : List ℕ) → AreTyped ps os → k f (values ++ os)
    truth_step k (Formula-F.Exists ps f) values = (os : List ℕ) × AreTyped ps os × k f (values ++ os)

    -- the formula is true in the state
    abbrev pub IsTrueIn : Formula → List ℕ → Type 0
    IsTrueIn = rec-Formula (List ℕ → Type 0) (λ X v k layer. truth_step k layer)

    -- one level of an effect, where k says what a part adds
    abbrev pub adds_step : {X : Type 0} → (X → List ℕ → GroundAtom → Type 0) → Effect-F X → List ℕ → GroundAtom → Type 0
    adds_step k (Effect-F.Add a) values g = g ≡ ground values a
    adds_step k (Effect-F.Delete a) values g = ⊥
    adds_step k (Effect-F.And es) values g = OneTrue (λ e v. k e v g) es values
    adds_step k (Effect-F.Forall ps e) values g = (os : List ℕ) × AreTyped ps os × k e (values ++ os) g
    adds_step k (Effect-F.When f e) values g = IsTrueIn f values × k e values g

    -- the effect, applied in the state, adds the atom
    abbrev pub Adds : Effect → List ℕ → GroundAtom → Type 0
    Adds = rec-Effect (List ℕ → GroundAtom → Type 0) (λ X v k layer. adds_step k layer)

    -- one level of an effect, where k says what a part deletes
    abbrev pub deletes_step : {X : Type 0} → (X → List ℕ → GroundAtom → Type 0) → Effect-F X → List ℕ → GroundAtom → Type 0
    deletes_step k (Effect-F.Add a) values g = ⊥
    deletes_step k (Effect-F.Delete a) values g = g ≡ ground values a
    deletes_step k (Effect-F.And es) values g = OneTrue (λ e v. k e v g) es values
    deletes_step k (Effect-F.Forall ps e) values g = (os : List ℕ) × AreTyped ps os × k e (values ++ os) g
    deletes_step k (Effect-F.When f e) values g = IsTrueIn f values × k e values g

    -- the effect, applied in the state, deletes the atom
    abbrev pub Deletes : Effect → List ℕ → GroundAtom → Type 0
    Deletes = rec-Effect (List ℕ → GroundAtom → Type 0) (λ X v k layer. deletes_step k layer)

    -- the state after the effect: an add wins over a delete of the same atom
    abbrev pub after : Effect → List ℕ → State
    after e values g = (S g × (Deletes e values g → ⊥)) ⊎ Adds e values g
