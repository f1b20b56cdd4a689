-- Quantifiers that declare no variable twice. What spells a formula leaves this open; the grammar of what is read asks for it.
-- Source: this project's; a repeated variable of one quantifier is a fault.
use Rattle.std.specs.Prelude.{map}
use Rattle.plan_texts.specs.Declared.{Declared, variable}
use Rattle.htn_base.specs.Different.{AreDifferent}
use Rattle.plan_texts.specs.Types.{EachIs}
use Rattle.plan_model.specs.declared.formulas.Formula.{Formula}
use Rattle.plan_model.specs.declared.formulas.Formula.TheFolds.{rec-Formula}
use Rattle.plan_model.specs.declared.formulas.Formula.TheOpen.{Formula-F}
use Rattle.plan_model.specs.declared.effects.Effect.{Effect}
use Rattle.plan_model.specs.declared.effects.Effect.TheFolds.{rec-Effect}
use Rattle.plan_model.specs.declared.effects.Effect.TheOpen.{Effect-F}

module _ (v : Declared) where
  -- one level of a formula, where k says it of a part
  abbrev pub fresh_step : {X : Type 0} → (X → Type 0) → Formula-F X → Type 0
  fresh_step k (Formula-F.Holds a) = Unit {0}
  fresh_step k (Formula-F.Equal s t) = Unit {0}
  fresh_step k (Formula-F.Not f) = k f
  fresh_step k (Formula-F.And fs) = EachIs k fs
  fresh_step k (Formula-F.Or fs) = EachIs k fs
  fresh_step k (Formula-F.Imply f g) = k f × k g
  fresh_step k (Formula-F.Forall xs f) = AreDifferent (map (variable v) xs) × k f
  fresh_step k (Formula-F.Exists xs f) = AreDifferent (map (variable v) xs) × k f

  abbrev pub AreFresh : Formula → Type 0
  AreFresh = rec-Formula (Type 0) (λ X u k layer. fresh_step k layer)

  -- one level of an effect
  abbrev pub fresh_effect_step : {X : Type 0} → (X → Type 0) → Effect-F X → Type 0
  fresh_effect_step k (Effect-F.Add a) = Unit {0}
  fresh_effect_step k (Effect-F.Delete a) = Unit {0}
  fresh_effect_step k (Effect-F.And es) = EachIs k es
  fresh_effect_step k (Effect-F.Forall xs e) = AreDifferent (map (variable v) xs) × k e
  fresh_effect_step k (Effect-F.When f e) = AreFresh f × k e

  abbrev pub AreFreshEffects : Effect → Type 0
  AreFreshEffects = rec-Effect (Type 0) (λ X u k layer. fresh_effect_step k layer)
