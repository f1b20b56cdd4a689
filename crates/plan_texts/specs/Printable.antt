-- What is asked of the parts of a value that is printed, as facts on its words.
-- Source: this project's.
use Rattle.std.specs.Prelude.{ℕ, ◌≡◌, ◌<◌, ◌++◌, true, List, map, length, slice_index, Some}
use Rattle.text_forms.specs.Words.{Word, is_name, is_variable, word_at, last_place}
use Rattle.text_forms.specs.Printing.{are_folded}
use Rattle.plan_texts.specs.Declared.{Declared, kinds, variable}
use Rattle.htn_base.specs.Different.{AreDifferent}
use Rattle.plan_texts.specs.Types.{Has, EachIs}
use Rattle.plan_model.specs.declared.terms.Term.{Term}
use Rattle.plan_model.specs.declared.terms.Term.TheVariants.{Var, Obj}
use Rattle.plan_model.specs.declared.terms.Param.{Param}
use Rattle.plan_model.specs.declared.formulas.Formula.{Formula}
use Rattle.plan_model.specs.declared.formulas.Formula.TheFolds.{rec-Formula}
use Rattle.plan_model.specs.declared.formulas.Formula.TheOpen.{Formula-F}
use Rattle.plan_model.specs.declared.effects.Effect.{Effect}
use Rattle.plan_model.specs.declared.effects.Effect.TheFolds.{rec-Effect}
use Rattle.plan_model.specs.declared.effects.Effect.TheOpen.{Effect-F}

-- a folded NAME that isn't reserved
abbrev pub IsPlain : Word → Type 0
IsPlain w = (are_folded w ≡ true) × (is_name w ≡ true)

-- folded, and what stands behind the ? of a variable: it need not be a NAME, so ??x is one
abbrev pub IsPlainVariable : Word → Type 0
IsPlainVariable w = (are_folded w ≡ true) × (is_variable w ≡ true)

module _ (v : Declared) (arities : List ℕ) where
  -- an object, or a variable in force that no later one hides
  abbrev pub IsInForce : List Word → Term → Type 0
  IsInForce scope (Var k) = last_place (word_at scope k) scope ≡ Some k
  IsInForce scope (Obj o) = o < length v.objects

  abbrev pub IsSoundAtom : List Word → ℕ → List Term → Type 0
  IsSoundAtom scope n ts = (n < length v.predicates) × (length ts ≡ slice_index arities n) × EachIs (IsInForce scope) ts

  abbrev pub IsSoundParam : Param → Type 0
  IsSoundParam x = IsPlainVariable (variable v x) × (x.ty < length (kinds v))

  -- the variables of one list differ
  abbrev pub AreSoundParams : List Param → Type 0
  AreSoundParams xs = EachIs IsSoundParam xs × AreDifferent (map (variable v) xs)

  abbrev pub sound_step : {X : Type 0} → (X → List Word → Type 0) → Formula-F X → List Word → Type 0
  sound_step k (Formula-F.Holds a) scope = IsSoundAtom scope a.predicate a.args
  sound_step k (Formula-F.Equal s t) scope = IsInForce scope s × IsInForce scope t
  sound_step k (Formula-F.Not f) scope = k f scope
  sound_step k (Formula-F.And fs) scope = EachIs (λ f. k f scope) fs
  sound_step k (Formula-F.Or fs) scope = EachIs (λ f. k f scope) fs
  sound_step k (Formula-F.Imply f g) scope = k f scope × k g scope
  sound_step k (Formula-F.Forall xs f) scope = AreSoundParams xs × k f (scope ++ map (variable v) xs)
  sound_step k (Formula-F.Exists xs f) scope = AreSoundParams xs × k f (scope ++ map (variable v) xs)

  abbrev pub IsSound : Formula → List Word → Type 0
  IsSound = rec-Formula (List Word → Type 0) (λ X u k layer. sound_step k layer)

  abbrev pub sound_effect_step : {X : Type 0} → (X → List Word → Type 0) → Effect-F X → List Word → Type 0
  sound_effect_step k (Effect-F.Add a) scope = IsSoundAtom scope a.predicate a.args
  sound_effect_step k (Effect-F.Delete a) scope = IsSoundAtom scope a.predicate a.args
  sound_effect_step k (Effect-F.And es) scope = EachIs (λ e. k e scope) es
  sound_effect_step k (Effect-F.Forall xs e) scope = AreSoundParams xs × k e (scope ++ map (variable v) xs)
  sound_effect_step k (Effect-F.When f e) scope = IsSound f scope × k e scope

  abbrev pub IsSoundEffect : Effect → List Word → Type 0
  IsSoundEffect = rec-Effect (List Word → Type 0) (λ X u k layer. sound_effect_step k layer)

  -- a union has two or more different types
  abbrev pub IsUnion : List Word → Type 0
  IsUnion ws = (1 < length ws) × EachIs (Has v.types) ws × AreDifferent ws

  -- the words of types, objects and predicates: folded names, no two of one space the same
  pub record HasWords : Type 0 where
    pub types : EachIs IsPlain v.types
    pub types_differ : AreDifferent v.types
    pub unions : EachIs IsUnion v.unions
    pub objects : EachIs IsPlain v.objects
    pub predicates : EachIs IsPlain v.predicates
    pub objects_differ : AreDifferent v.objects
    pub predicates_differ : AreDifferent v.predicates
