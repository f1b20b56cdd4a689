-- What spells terms, formulas and effects, over nested lists of words. The relations go down the value.
-- Source: appendix A (grammar) of Fox and Long, "PDDL2.1", JAIR 20, 2003, level 1: terms, goal descriptions, effects.
use Rattle.std.specs.Prelude.{ℕ, ◌≡◌, ◌⊎◌, ◌++◌, true, List, ◌∷◌, map, codes, Option, Some}
use Rattle.text_forms.specs.Lists.{Part, Parts, name, group, nothing, part}
use Rattle.text_forms.specs.Words.{Word, is_name, is_variable, word_at, first_place, last_place}
use Rattle.text_forms.specs.Printing.{headed}
use Rattle.plan_texts.specs.Declared.{Declared, kind_at, variable}
use Rattle.plan_texts.specs.TypedLists.{Each, IsEmpty, EachTyped, type_said, kind_said, are_names}
use Rattle.plan_model.specs.declared.terms.Term.{Term}
use Rattle.plan_model.specs.declared.terms.Term.TheVariants.{Var, Obj}
use Rattle.plan_model.specs.declared.terms.Param.{Param}
use Rattle.plan_model.specs.declared.formulas.Formula.{Formula}
use Rattle.plan_model.specs.declared.formulas.Formula.TheFolds.{rec-Formula}
use Rattle.plan_model.specs.declared.formulas.Formula.TheOpen.{Formula-F}
use Rattle.plan_model.specs.declared.effects.Effect.{Effect}
use Rattle.plan_model.specs.declared.effects.Effect.TheFolds.{rec-Effect}
use Rattle.plan_model.specs.declared.effects.Effect.TheOpen.{Effect-F}

module _ (v : Declared) where
  -- the word of a variable is that of the innermost one in force; that of an object is its first declaration's
  abbrev pub IsTerm : List Word → Term → Part → Type 0
  IsTerm scope (Var k) p = (w : Word) × (p ≡ name (63 ∷ w)) × (last_place w scope ≡ Some k)
  IsTerm scope (Obj o) p = (w : Word) × (p ≡ name w) × (is_name w ≡ true) × (first_place w v.objects ≡ Some o)

  -- a predicate with terms
  abbrev pub IsApplied : List Word → ℕ → List Term → Part → Type 0
  IsApplied scope n ts p = (w : Word) × (ps : Parts) × (p ≡ headed w ps) × (is_name w ≡ true) × (first_place w v.predicates ≡ Some n) × Each (IsTerm scope) ts ps

  -- the type of an object is one name
  abbrev pub IsType : ℕ → Option Part → Type 0
  IsType t said = (word_at v.types t ≡ type_said said) × (is_name (type_said said) ≡ true)

  -- that of a variable may be a union
  abbrev pub IsKind : ℕ → Option Part → Type 0
  IsKind t said = (kind_at v t ≡ kind_said said) × (are_names (kind_said said) ≡ true)

  abbrev pub IsParam : Param → Part → Option Part → Type 0
  IsParam x p said = (p ≡ name (63 ∷ variable v x)) × (is_variable (variable v x) ≡ true) × IsKind x.ty said

  -- one level of a formula, where k says what spells a part of it, and scope has the words of the variables in force
  abbrev pub formula_step : {X : Type 0} → (X → List Word → Part → Type 0) → Formula-F X → List Word → Part → Type 0
  formula_step k (Formula-F.Holds a) scope p = IsApplied scope a.predicate a.args p
  formula_step k (Formula-F.Equal s t) scope p = (q : Part) × (r : Part) × (p ≡ headed (codes "=") (part q (part r nothing))) × IsTerm scope s q × IsTerm scope t r
  formula_step k (Formula-F.Not f) scope p = (q : Part) × (p ≡ headed (codes "not") (part q nothing)) × k f scope q
  formula_step k (Formula-F.And fs) scope p = ((ps : Parts) × (p ≡ headed (codes "and") ps) × Each (λ f. k f scope) fs ps) ⊎ (IsEmpty fs × (p ≡ group nothing))
  formula_step k (Formula-F.Or fs) scope p = (ps : Parts) × (p ≡ headed (codes "or") ps) × Each (λ f. k f scope) fs ps
  formula_step k (Formula-F.Imply f g) scope p = (q : Part) × (r : Part) × (p ≡ headed (codes "imply") (part q (part r nothing))) × k f scope q × k g scope r
  formula_step k (Formula-F.Forall xs f) scope p = (ps : Parts) × (q : Part) × (p ≡ headed (codes "forall") (part (group ps) (part q nothing))) × EachTyped IsParam xs ps × k f (scope ++ map (variable v) xs) q
  formula_step k (Formula-F.Exists xs f) scope p = (ps : Parts) × (q : Part) × (p ≡ headed (codes "exists") (part (group ps) (part q nothing))) × EachTyped IsParam xs ps × k f (scope ++ map (variable v) xs) q

  abbrev pub IsFormula : Formula → List Word → Part → Type 0
  IsFormula = rec-Formula (List Word → Part → Type 0) (λ X u k layer. formula_step k layer)

  -- one level of an effect: a dropped increase is the empty effect
  abbrev pub effect_step : {X : Type 0} → (X → List Word → Part → Type 0) → Effect-F X → List Word → Part → Type 0
  effect_step k (Effect-F.Add a) scope p = IsApplied scope a.predicate a.args p
  effect_step k (Effect-F.Delete a) scope p = (q : Part) × (p ≡ headed (codes "not") (part q nothing)) × IsApplied scope a.predicate a.args q
  effect_step k (Effect-F.And es) scope p = ((ps : Parts) × (p ≡ headed (codes "and") ps) × Each (λ e. k e scope) es ps) ⊎ (IsEmpty es × ((p ≡ group nothing) ⊎ ((ps : Parts) × (p ≡ headed (codes "increase") ps))))
  effect_step k (Effect-F.Forall xs e) scope p = (ps : Parts) × (q : Part) × (p ≡ headed (codes "forall") (part (group ps) (part q nothing))) × EachTyped IsParam xs ps × k e (scope ++ map (variable v) xs) q
  effect_step k (Effect-F.When f e) scope p = (q : Part) × (r : Part) × (p ≡ headed (codes "when") (part q (part r nothing))) × IsFormula f scope q × k e scope r

  abbrev pub IsEffect : Effect → List Word → Part → Type 0
  IsEffect = rec-Effect (List Word → Part → Type 0) (λ X u k layer. effect_step k layer)
