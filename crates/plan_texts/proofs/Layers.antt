-- What spells a formula and an effect, one constructor at a time.
use Rattle.std.proofs.Common.{◌≡◌, ◌⊎◌, List, ◌++◌, map, codes, ap, sym, ◌∙◌}
use Rattle.text_forms.specs.Lists.{Part, Parts, group, nothing, part}
use Rattle.text_forms.specs.Words.{Word}
use Rattle.text_forms.specs.Printing.{headed}
use Rattle.plan_texts.specs.Declared.{Declared, variable}
use Rattle.plan_texts.specs.TypedLists.{Each, IsEmpty, EachTyped}
use Rattle.plan_texts.specs.Formulas.{IsTerm, IsApplied, IsParam, IsFormula, IsEffect}
use Rattle.plan_model.specs.declared.terms.Atom.{Atom}
use Rattle.plan_model.specs.declared.terms.Param.{Param}
use Rattle.plan_model.specs.declared.terms.Term.{Term}
use Rattle.plan_model.specs.declared.formulas.Formula.{Formula}
use Rattle.plan_model.specs.declared.formulas.Formula.TheOpen.{Formula-F}
use Rattle.plan_model.specs.declared.formulas.Formula.TheVariants.{Holds, Equal, Not, And, Or, Imply, Forall, Exists, rolls-Holds, rolls-Equal, rolls-Not, rolls-And, rolls-Or, rolls-Imply, rolls-Forall, rolls-Exists}
use Rattle.plan_model.specs.declared.effects.Effect.{Effect}
use Rattle.plan_model.specs.declared.effects.Effect.TheOpen.{Effect-F}
use Rattle.plan_model.specs.declared.effects.Effect.TheVariants.{Add, Delete, When, And as Both, Forall as Each_one, rolls-Add, rolls-Delete, rolls-When, rolls-And as rolls-Both, rolls-Forall as rolls-Each_one}
use Rattle.plan_texts.proofs.Readings.{formula_roll}
use Rattle.plan_texts.proofs.Effects.{effect_roll}

module _ (v : Declared) (scope : List Word) (p : Part) where
  pub formula-Holds : (a : Atom) → IsFormula v (Holds a) scope p ≡ IsApplied v scope a.predicate a.args p
  formula-Holds a = ap (λ f. IsFormula v f scope p) (sym (rolls-Holds a)) ∙ ap (λ (z : List Word → Part → Type 0). z scope p) (formula_roll v (Formula-F.Holds a))

  pub formula-Equal : (s t : Term) → IsFormula v (Equal s t) scope p ≡ ((q : Part) × (r : Part) × (p ≡ headed (codes "=") (part q (part r nothing))) × IsTerm v scope s q × IsTerm v scope t r)
  formula-Equal s t = ap (λ f. IsFormula v f scope p) (sym (rolls-Equal s t)) ∙ ap (λ (z : List Word → Part → Type 0). z scope p) (formula_roll v (Formula-F.Equal s t))

  pub formula-Not : (f : Formula) → IsFormula v (Not f) scope p ≡ ((q : Part) × (p ≡ headed (codes "not") (part q nothing)) × IsFormula v f scope q)
  formula-Not f = ap (λ f. IsFormula v f scope p) (sym (rolls-Not f)) ∙ ap (λ (z : List Word → Part → Type 0). z scope p) (formula_roll v (Formula-F.Not f))

  pub formula-And : (fs : List Formula) → IsFormula v (And fs) scope p ≡ (((ps : Parts) × (p ≡ headed (codes "and") ps) × Each (λ f. IsFormula v f scope) fs ps) ⊎ (IsEmpty fs × (p ≡ group nothing)))
  formula-And fs = ap (λ f. IsFormula v f scope p) (sym (rolls-And fs)) ∙ ap (λ (z : List Word → Part → Type 0). z scope p) (formula_roll v (Formula-F.And fs))

  pub formula-Or : (fs : List Formula) → IsFormula v (Or fs) scope p ≡ ((ps : Parts) × (p ≡ headed (codes "or") ps) × Each (λ f. IsFormula v f scope) fs ps)
  formula-Or fs = ap (λ f. IsFormula v f scope p) (sym (rolls-Or fs)) ∙ ap (λ (z : List Word → Part → Type 0). z scope p) (formula_roll v (Formula-F.Or fs))

  pub formula-Imply : (f g : Formula) → IsFormula v (Imply f g) scope p ≡ ((q : Part) × (r : Part) × (p ≡ headed (codes "imply") (part q (part r nothing))) × IsFormula v f scope q × IsFormula v g scope r)
  formula-Imply f g = ap (λ f. IsFormula v f scope p) (sym (rolls-Imply f g)) ∙ ap (λ (z : List Word → Part → Type 0). z scope p) (formula_roll v (Formula-F.Imply f g))

  pub formula-Forall : (xs : List Param) (f : Formula) → IsFormula v (Forall xs f) scope p ≡ ((ps : Parts) × (q : Part) × (p ≡ headed (codes "forall") (part (group ps) (part q nothing))) × EachTyped (IsParam v) xs ps × IsFormula v f (scope ++ map (variable v) xs) q)
  formula-Forall xs f = ap (λ f. IsFormula v f scope p) (sym (rolls-Forall xs f)) ∙ ap (λ (z : List Word → Part → Type 0). z scope p) (formula_roll v (Formula-F.Forall xs f))

  pub formula-Exists : (xs : List Param) (f : Formula) → IsFormula v (Exists xs f) scope p ≡ ((ps : Parts) × (q : Part) × (p ≡ headed (codes "exists") (part (group ps) (part q nothing))) × EachTyped (IsParam v) xs ps × IsFormula v f (scope ++ map (variable v) xs) q)
  formula-Exists xs f = ap (λ f. IsFormula v f scope p) (sym (rolls-Exists xs f)) ∙ ap (λ (z : List Word → Part → Type 0). z scope p) (formula_roll v (Formula-F.Exists xs f))

  pub effect-Add : (a : Atom) → IsEffect v (Add a) scope p ≡ IsApplied v scope a.predicate a.args p
  effect-Add a = ap (λ e. IsEffect v e scope p) (sym (rolls-Add a)) ∙ ap (λ (z : List Word → Part → Type 0). z scope p) (effect_roll v (Effect-F.Add a))

  pub effect-Delete : (a : Atom) → IsEffect v (Delete a) scope p ≡ ((q : Part) × (p ≡ headed (codes "not") (part q nothing)) × IsApplied v scope a.predicate a.args q)
  effect-Delete a = ap (λ e. IsEffect v e scope p) (sym (rolls-Delete a)) ∙ ap (λ (z : List Word → Part → Type 0). z scope p) (effect_roll v (Effect-F.Delete a))

  pub effect-Both : (es : List Effect) → IsEffect v (Both es) scope p ≡ (((ps : Parts) × (p ≡ headed (codes "and") ps) × Each (λ e. IsEffect v e scope) es ps) ⊎ (IsEmpty es × ((p ≡ group nothing) ⊎ ((ps : Parts) × (p ≡ headed (codes "increase") ps)))))
  effect-Both es = ap (λ e. IsEffect v e scope p) (sym (rolls-Both es)) ∙ ap (λ (z : List Word → Part → Type 0). z scope p) (effect_roll v (Effect-F.And es))

  pub effect-Each_one : (xs : List Param) (e : Effect) → IsEffect v (Each_one xs e) scope p ≡ ((ps : Parts) × (q : Part) × (p ≡ headed (codes "forall") (part (group ps) (part q nothing))) × EachTyped (IsParam v) xs ps × IsEffect v e (scope ++ map (variable v) xs) q)
  effect-Each_one xs e = ap (λ e. IsEffect v e scope p) (sym (rolls-Each_one xs e)) ∙ ap (λ (z : List Word → Part → Type 0). z scope p) (effect_roll v (Effect-F.Forall xs e))

  pub effect-When : (f : Formula) (e : Effect) → IsEffect v (When f e) scope p ≡ ((q : Part) × (r : Part) × (p ≡ headed (codes "when") (part q (part r nothing))) × IsFormula v f scope q × IsEffect v e scope r)
  effect-When f e = ap (λ e. IsEffect v e scope p) (sym (rolls-When f e)) ∙ ap (λ (z : List Word → Part → Type 0). z scope p) (effect_roll v (Effect-F.When f e))
