-- The room that a test of a formula or an effect takes: for the variables in force, and for the arguments of an atom.
-- Source: this project's.
use Rattle.std.specs.Prelude.{ℕ, ◌+◌, ◌≤◌, List, [], ◌∷◌, length}
use Rattle.plan_model.specs.declared.terms.Param.{Param}
use Rattle.plan_model.specs.declared.formulas.Formula.{Formula}
use Rattle.plan_model.specs.declared.formulas.Formula.TheFolds.{rec-Formula}
use Rattle.plan_model.specs.declared.formulas.Formula.TheOpen.{Formula-F}
use Rattle.plan_model.specs.declared.effects.Effect.{Effect}
use Rattle.plan_model.specs.declared.effects.Effect.TheFolds.{rec-Effect}
use Rattle.plan_model.specs.declared.effects.Effect.TheOpen.{Effect-F}
use Rattle.ground_state.specs.Frames.{Frame}

-- each part has room, where so many variables are in force
abbrev pub EachFits : {X : Type 0} → (X → ℕ → Type 0) → List X → ℕ → Type 0
EachFits k [] n = Unit {0}
EachFits k (x ∷ xs) n = k x n × EachFits k xs n

module _ (room arity : ℕ) where
  -- one level of a formula, where n variables are in force
  abbrev pub fits_step : {X : Type 0} → (X → ℕ → Type 0) → Formula-F X → ℕ → Type 0
  fits_step k (Formula-F.Holds a) n = length a.args ≤ arity
  fits_step k (Formula-F.Equal s t) n = Unit {0}
  fits_step k (Formula-F.Not f) n = k f n
  fits_step k (Formula-F.And fs) n = EachFits k fs n
  fits_step k (Formula-F.Or fs) n = EachFits k fs n
  fits_step k (Formula-F.Imply f g) n = k f n × k g n
  fits_step k (Formula-F.Forall ps f) n = (n + length ps ≤ room) × k f (n + length ps)
  fits_step k (Formula-F.Exists ps f) n = (n + length ps ≤ room) × k f (n + length ps)

  abbrev pub fits : Formula → ℕ → Type 0
  fits = rec-Formula (ℕ → Type 0) (λ X v k layer. fits_step k layer)

  -- one level of an effect: what it adds and deletes takes no room
  abbrev pub effect_fits_step : {X : Type 0} → (X → ℕ → Type 0) → Effect-F X → ℕ → Type 0
  effect_fits_step k (Effect-F.Add a) n = Unit {0}
  effect_fits_step k (Effect-F.Delete a) n = Unit {0}
  effect_fits_step k (Effect-F.And es) n = EachFits k es n
  effect_fits_step k (Effect-F.Forall ps e) n = (n + length ps ≤ room) × k e (n + length ps)
  effect_fits_step k (Effect-F.When f e) n = fits f n × k e n

  abbrev pub effect_fits : Effect → ℕ → Type 0
  effect_fits = rec-Effect (ℕ → Type 0) (λ X v k layer. effect_fits_step k layer)

-- the environment has room for the formula
abbrev pub Fits : Frame → Formula → Type 0
Fits env f = fits env.room env.arity f (length env.objects)

-- and for each of these
abbrev pub AllFit : Frame → List Formula → Type 0
AllFit env fs = EachFits (fits env.room env.arity) fs (length env.objects)

-- and with these variables in force too
abbrev pub FitsWithin : Frame → List Param → Formula → Type 0
FitsWithin env ps f = (length env.objects + length ps ≤ env.room) × fits env.room env.arity f (length env.objects + length ps)

-- the same, of effects
abbrev pub EffectFits : Frame → Effect → Type 0
EffectFits env e = effect_fits env.room env.arity e (length env.objects)

abbrev pub AllEffectsFit : Frame → List Effect → Type 0
AllEffectsFit env es = EachFits (effect_fits env.room env.arity) es (length env.objects)

abbrev pub EffectFitsWithin : Frame → List Param → Effect → Type 0
EffectFitsWithin env ps e = (length env.objects + length ps ≤ env.room) × effect_fits env.room env.arity e (length env.objects + length ps)
