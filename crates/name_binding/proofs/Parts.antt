-- What a formula or an effect stands for, and its faults, one level at a time.
use Rattle.std.proofs.Common.{ℕ, ◌≡◌, ◌++◌, List, sym, ap, ◌∙◌}
use Rattle.std.proofs.lemmas.Simd.{map-map}
use Rattle.std.proofs.lemmas.List.Folds.{flat_map-map}
use Rattle.gd_reader.specs.declared.formulas.RawFormula.{RawFormula, roll-RawFormula}
use Rattle.gd_reader.specs.declared.formulas.RawFormula.TheFolds.{fold-roll-RawFormula, map-RawFormula}
use Rattle.gd_reader.specs.declared.formulas.RawFormula.TheOpen.{RawFormula-F}
use Rattle.gd_reader.specs.declared.formulas.RawFormula.TheVariants as raw
use Rattle.gd_reader.specs.declared.effects.RawEffect.{RawEffect, roll-RawEffect}
use Rattle.gd_reader.specs.declared.effects.RawEffect.TheFolds.{fold-roll-RawEffect, map-RawEffect}
use Rattle.gd_reader.specs.declared.effects.RawEffect.TheOpen.{RawEffect-F}
use Rattle.gd_reader.specs.declared.effects.RawEffect.TheVariants as raw_effect
use Rattle.plan_model.specs.declared.formulas.Formula.{Formula}
use Rattle.plan_model.specs.declared.formulas.Formula.TheVariants as formula
use Rattle.plan_model.specs.declared.effects.Effect.{Effect}
use Rattle.plan_model.specs.declared.effects.Effect.TheVariants as effect
use Rattle.name_binding.specs.declared.faults.Spot.{Spot}
use Rattle.name_binding.specs.declared.known.Known.{Known}
use Rattle.name_binding.specs.Formulas.{formula_step, formula_bound, formulas_bound, formula_faults_step, formula_faults, formulas_faults}
use Rattle.name_binding.specs.Effects.{effect_step, effect_bound, effects_bound, effect_faults_step, effect_faults, effects_faults}

module _ (known : Known) where
  abbrev stands : RawFormula → List ℕ → Formula
  stands f scope = formula_bound known scope f

  abbrev faults : RawFormula → List ℕ → List Spot
  faults f scope = formula_faults known scope f

  abbrev effect_stands : RawEffect → List ℕ → Effect
  effect_stands e scope = effect_bound known scope e

  abbrev faults_of_effect : RawEffect → List ℕ → List Spot
  faults_of_effect e scope = effect_faults known scope e

  pub formula_level : (x : RawFormula-F RawFormula) (f : RawFormula) → roll-RawFormula x ≡ f → (scope : List ℕ) → formula_bound known scope f ≡ formula_step known (map-RawFormula RawFormula (List ℕ → Formula) stands x) scope
  formula_level x f e scope = ap (formula_bound known scope) (sym e) ∙ ap (λ (g : List ℕ → Formula). g scope) (fold-roll-RawFormula (List ℕ → Formula) (formula_step known) x)

  pub faults_level : (x : RawFormula-F RawFormula) (f : RawFormula) → roll-RawFormula x ≡ f → (scope : List ℕ) → formula_faults known scope f ≡ formula_faults_step known (map-RawFormula RawFormula (List ℕ → List Spot) faults x) scope
  faults_level x f e scope = ap (formula_faults known scope) (sym e) ∙ ap (λ (g : List ℕ → List Spot). g scope) (fold-roll-RawFormula (List ℕ → List Spot) (formula_faults_step known) x)

  pub effect_level : (x : RawEffect-F RawEffect) (e : RawEffect) → roll-RawEffect x ≡ e → (scope : List ℕ) → effect_bound known scope e ≡ effect_step known (map-RawEffect RawEffect (List ℕ → Effect) effect_stands x) scope
  effect_level x f e scope = ap (effect_bound known scope) (sym e) ∙ ap (λ (g : List ℕ → Effect). g scope) (fold-roll-RawEffect (List ℕ → Effect) (effect_step known) x)

  pub effect_faults_level : (x : RawEffect-F RawEffect) (e : RawEffect) → roll-RawEffect x ≡ e → (scope : List ℕ) → effect_faults known scope e ≡ effect_faults_step known (map-RawEffect RawEffect (List ℕ → List Spot) faults_of_effect x) scope
  effect_faults_level x f e scope = ap (effect_faults known scope) (sym e) ∙ ap (λ (g : List ℕ → List Spot). g scope) (fold-roll-RawEffect (List ℕ → List Spot) (effect_faults_step known) x)

module _ (known : Known) (scope : List ℕ) where
  pub bound-And : (fs : List RawFormula) → formula_bound known scope (raw.And fs) ≡ formula.And (formulas_bound known scope fs)
  bound-And fs = formula_level known (RawFormula-F.And fs) (raw.And fs) (raw.rolls-And fs) scope ∙ ap formula.And (map-map (λ (g : List ℕ → Formula). g scope) (stands known) fs)

  pub bound-Or : (fs : List RawFormula) → formula_bound known scope (raw.Or fs) ≡ formula.Or (formulas_bound known scope fs)
  bound-Or fs = formula_level known (RawFormula-F.Or fs) (raw.Or fs) (raw.rolls-Or fs) scope ∙ ap formula.Or (map-map (λ (g : List ℕ → Formula). g scope) (stands known) fs)

  pub faults-And : (fs : List RawFormula) → formula_faults known scope (raw.And fs) ≡ formulas_faults known scope fs
  faults-And fs = faults_level known (RawFormula-F.And fs) (raw.And fs) (raw.rolls-And fs) scope ∙ flat_map-map (λ (g : List ℕ → List Spot). g scope) (faults known) fs

  pub faults-Or : (fs : List RawFormula) → formula_faults known scope (raw.Or fs) ≡ formulas_faults known scope fs
  faults-Or fs = faults_level known (RawFormula-F.Or fs) (raw.Or fs) (raw.rolls-Or fs) scope ∙ flat_map-map (λ (g : List ℕ → List Spot). g scope) (faults known) fs

  pub faults-Imply : (f g : RawFormula) → formula_faults known scope (raw.Imply f g) ≡ formula_faults known scope f ++ formula_faults known scope g
  faults-Imply f g = faults_level known (RawFormula-F.Imply f g) (raw.Imply f g) (raw.rolls-Imply f g) scope

  pub effect-And : (es : List RawEffect) → effect_bound known scope (raw_effect.And es) ≡ effect.And (effects_bound known scope es)
  effect-And es = effect_level known (RawEffect-F.And es) (raw_effect.And es) (raw_effect.rolls-And es) scope ∙ ap effect.And (map-map (λ (g : List ℕ → Effect). g scope) (effect_stands known) es)

  pub effect_faults-And : (es : List RawEffect) → effect_faults known scope (raw_effect.And es) ≡ effects_faults known scope es
  effect_faults-And es = effect_faults_level known (RawEffect-F.And es) (raw_effect.And es) (raw_effect.rolls-And es) scope ∙ flat_map-map (λ (g : List ℕ → List Spot). g scope) (faults_of_effect known) es

  pub effect_faults-When : (f : RawFormula) (e : RawEffect) → effect_faults known scope (raw_effect.When f e) ≡ formula_faults known scope f ++ effect_faults known scope e
  effect_faults-When f e = effect_faults_level known (RawEffect-F.When f e) (raw_effect.When f e) (raw_effect.rolls-When f e) scope
