-- Formulas and effects in which the terms of each atom stand behind its name, in the order of the text.
-- Source: this project's; offsets are in bytes from 0.
use Rattle.std.specs.Prelude.{[], ◌∷◌}
use Rattle.plan_texts.specs.Types.{EachIs}
use Rattle.gd_reader.specs.declared.formulas.RawFormula.{RawFormula}
use Rattle.gd_reader.specs.declared.formulas.RawFormula.TheFolds.{rec-RawFormula}
use Rattle.gd_reader.specs.declared.formulas.RawFormula.TheOpen.{RawFormula-F}
use Rattle.gd_reader.specs.declared.effects.RawEffect.{RawEffect}
use Rattle.gd_reader.specs.declared.effects.RawEffect.TheFolds.{rec-RawEffect}
use Rattle.gd_reader.specs.declared.effects.RawEffect.TheOpen.{RawEffect-F}
use Rattle.text_values.specs.form_spellings.Rising.{Rise, IsAtomInOrder}

-- one level of a formula, where k says it of a part
abbrev pub ordered_step : {X : Type 0} → (X → Type 0) → RawFormula-F X → Type 0
ordered_step k (RawFormula-F.Holds a) = IsAtomInOrder a
ordered_step k (RawFormula-F.Equal s t) = Rise (s.at ∷ t.at ∷ [])
ordered_step k (RawFormula-F.Not f) = k f
ordered_step k (RawFormula-F.And fs) = EachIs k fs
ordered_step k (RawFormula-F.Or fs) = EachIs k fs
ordered_step k (RawFormula-F.Imply f g) = k f × k g
ordered_step k (RawFormula-F.Forall xs f) = k f
ordered_step k (RawFormula-F.Exists xs f) = k f

abbrev pub IsFormulaInOrder : RawFormula → Type 0
IsFormulaInOrder = rec-RawFormula (Type 0) (λ X u k layer. ordered_step k layer)

-- one level of an effect
abbrev pub effect_ordered_step : {X : Type 0} → (X → Type 0) → RawEffect-F X → Type 0
effect_ordered_step k (RawEffect-F.Add a) = IsAtomInOrder a
effect_ordered_step k (RawEffect-F.Delete a) = IsAtomInOrder a
effect_ordered_step k (RawEffect-F.And es) = EachIs k es
effect_ordered_step k (RawEffect-F.Forall xs e) = k e
effect_ordered_step k (RawEffect-F.When f e) = IsFormulaInOrder f × k e

abbrev pub IsEffectInOrder : RawEffect → Type 0
IsEffectInOrder = rec-RawEffect (Type 0) (λ X u k layer. effect_ordered_step k layer)
