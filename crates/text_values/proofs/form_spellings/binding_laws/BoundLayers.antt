-- One level of what a formula and an effect are bound to.
use Rattle.std.proofs.Common.{◌≡◌, List, [], ◌∷◌, map, refl, ap, sym, subst}
use Rattle.text_forms.specs.Words.{Word}
use Rattle.gd_reader.specs.declared.formulas.RawFormula.{RawFormula, roll-RawFormula}
use Rattle.gd_reader.specs.declared.formulas.RawFormula.TheFolds.{rec-roll-RawFormula, map-RawFormula}
use Rattle.gd_reader.specs.declared.formulas.RawFormula.TheOpen.{RawFormula-F}
use Rattle.gd_reader.specs.declared.effects.RawEffect.{RawEffect, roll-RawEffect}
use Rattle.gd_reader.specs.declared.effects.RawEffect.TheFolds.{rec-roll-RawEffect, map-RawEffect}
use Rattle.gd_reader.specs.declared.effects.RawEffect.TheOpen.{RawEffect-F}
use Rattle.gd_reader.specs.Terms.{Names}
use Rattle.plan_texts.specs.Declared.{Declared}
use Rattle.plan_texts.specs.Together.{Together}
use Rattle.plan_model.specs.declared.formulas.Formula.{Formula}
use Rattle.plan_model.specs.declared.formulas.Formula.TheVariants as formula
use Rattle.plan_model.specs.declared.effects.Effect.{Effect}
use Rattle.plan_model.specs.declared.effects.Effect.TheVariants as effect
use Rattle.text_values.specs.form_spellings.Bound.{bound_step, IsBoundFormula, bound_effect_step, IsBoundEffect}

pairs-map : {X Y Z : Type 0} (u : X → Y) (R : Y → Z → Type 0) (xs : List X) (zs : List Z) → Together (λ x z. R (u x) z) xs zs ≡ Together R (map u xs) zs
pairs-map u R [] [] = refl
pairs-map u R [] (z ∷ zs) = refl
pairs-map u R (x ∷ xs) [] = refl
pairs-map u R (x ∷ xs) (z ∷ zs) = ap (λ t. R (u x) z × t) (pairs-map u R xs zs)

module _ (v : Declared) (names : Names) where
  formula_natural : (X : Type 0) (u : X → RawFormula) (k : RawFormula → List Word → Formula → Type 0) (x : RawFormula-F X) → bound_step v names (λ p. k (u p)) x ≡ bound_step v names k (map-RawFormula X RawFormula u x)
  formula_natural X u k (RawFormula-F.Holds a) = refl
  formula_natural X u k (RawFormula-F.Equal s t) = refl
  formula_natural X u k (RawFormula-F.Not r) = refl
  formula_natural X u k (RawFormula-F.And rs) = λ i scope f. (gs : List Formula) × (f ≡ formula.And gs) × pairs-map u (λ r g. k r scope g) rs gs i
  formula_natural X u k (RawFormula-F.Or rs) = λ i scope f. (gs : List Formula) × (f ≡ formula.Or gs) × pairs-map u (λ r g. k r scope g) rs gs i
  formula_natural X u k (RawFormula-F.Imply r s) = refl
  formula_natural X u k (RawFormula-F.Forall xs r) = refl
  formula_natural X u k (RawFormula-F.Exists xs r) = refl

  pub bound_formula : (x : RawFormula-F RawFormula) (scope : List Word) (f : Formula) → bound_step v names (IsBoundFormula v names) x scope f → IsBoundFormula v names (roll-RawFormula x) scope f
  bound_formula x scope f b = subst (λ (z : List Word → Formula → Type 0). z scope f) (sym (rec-roll-RawFormula (List Word → Formula → Type 0) (λ X u k layer. bound_step v names k layer) formula_natural x)) b

  effect_natural : (X : Type 0) (u : X → RawEffect) (k : RawEffect → List Word → Effect → Type 0) (x : RawEffect-F X) → bound_effect_step v names (λ p. k (u p)) x ≡ bound_effect_step v names k (map-RawEffect X RawEffect u x)
  effect_natural X u k (RawEffect-F.Add a) = refl
  effect_natural X u k (RawEffect-F.Delete a) = refl
  effect_natural X u k (RawEffect-F.And rs) = λ i scope e. (gs : List Effect) × (e ≡ effect.And gs) × pairs-map u (λ r g. k r scope g) rs gs i
  effect_natural X u k (RawEffect-F.Forall xs r) = refl
  effect_natural X u k (RawEffect-F.When r s) = refl

  pub bound_effect : (x : RawEffect-F RawEffect) (scope : List Word) (e : Effect) → bound_effect_step v names (IsBoundEffect v names) x scope e → IsBoundEffect v names (roll-RawEffect x) scope e
  bound_effect x scope e b = subst (λ (z : List Word → Effect → Type 0). z scope e) (sym (rec-roll-RawEffect (List Word → Effect → Type 0) (λ X u k layer. bound_effect_step v names k layer) effect_natural x)) b
