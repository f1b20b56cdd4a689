-- One level of what holds of each name in a formula or an effect, and the variables that a list declares.
use Rattle.std.proofs.Common.{ℕ, ◌≡◌, List, [], ◌∷◌, ◌++◌, refl, ap, subst, ◌∙◌}
use Rattle.std.proofs.lemmas.List.{map-append}
use Rattle.text_forms.specs.Words.{word_at}
use Rattle.gd_reader.specs.declared.typed_lists.RawParam.{RawParam}
use Rattle.gd_reader.specs.declared.formulas.RawFormula.{RawFormula, roll-RawFormula}
use Rattle.gd_reader.specs.declared.formulas.RawFormula.TheFolds.{rec-roll-RawFormula, map-RawFormula}
use Rattle.gd_reader.specs.declared.formulas.RawFormula.TheOpen.{RawFormula-F}
use Rattle.gd_reader.specs.declared.effects.RawEffect.{RawEffect, roll-RawEffect}
use Rattle.gd_reader.specs.declared.effects.RawEffect.TheFolds.{rec-roll-RawEffect, map-RawEffect}
use Rattle.gd_reader.specs.declared.effects.RawEffect.TheOpen.{RawEffect-F}
use Rattle.gd_reader.specs.Terms.{Names}
use Rattle.plan_texts.proofs.Spelled.{each_is-map}
use Rattle.text_values.specs.form_spellings.EachName.{of_step, effect_of_step}
use Rattle.text_values.specs.form_spellings.InTable.{IsNameIn, IsFormulaIn, IsEffectIn, AreParamsIn}
use Rattle.hddl_reader.specs.names.Uses.{variables}
use Rattle.name_binding.specs.Entered.{variables_of}
use Rattle.text_values.specs.form_spellings.binding_laws.Numbers.{words_of, AreKnown}

module _ (names : Names) where
  formula_natural : (X : Type 0) (u : X → RawFormula) (k : RawFormula → Type 0) (x : RawFormula-F X) → of_step (IsNameIn names) (λ p. k (u p)) x ≡ of_step (IsNameIn names) k (map-RawFormula X RawFormula u x)
  formula_natural X u k (RawFormula-F.Holds a) = refl
  formula_natural X u k (RawFormula-F.Equal s t) = refl
  formula_natural X u k (RawFormula-F.Not f) = refl
  formula_natural X u k (RawFormula-F.And fs) = each_is-map u k fs
  formula_natural X u k (RawFormula-F.Or fs) = each_is-map u k fs
  formula_natural X u k (RawFormula-F.Imply f g) = refl
  formula_natural X u k (RawFormula-F.Forall xs f) = refl
  formula_natural X u k (RawFormula-F.Exists xs f) = refl

  pub formula_in : (x : RawFormula-F RawFormula) → IsFormulaIn names (roll-RawFormula x) → of_step (IsNameIn names) (IsFormulaIn names) x
  formula_in x is = subst (λ (z : Type 0). z) (rec-roll-RawFormula (Type 0) (λ X u k layer. of_step (IsNameIn names) k layer) formula_natural x) is

  effect_natural : (X : Type 0) (u : X → RawEffect) (k : RawEffect → Type 0) (x : RawEffect-F X) → effect_of_step (IsNameIn names) (λ p. k (u p)) x ≡ effect_of_step (IsNameIn names) k (map-RawEffect X RawEffect u x)
  effect_natural X u k (RawEffect-F.Add a) = refl
  effect_natural X u k (RawEffect-F.Delete a) = refl
  effect_natural X u k (RawEffect-F.And es) = each_is-map u k es
  effect_natural X u k (RawEffect-F.Forall xs e) = refl
  effect_natural X u k (RawEffect-F.When f e) = refl

  pub effect_in : (x : RawEffect-F RawEffect) → IsEffectIn names (roll-RawEffect x) → effect_of_step (IsNameIn names) (IsEffectIn names) x
  effect_in x is = subst (λ (z : Type 0). z) (rec-roll-RawEffect (Type 0) (λ X u k layer. effect_of_step (IsNameIn names) k layer) effect_natural x) is

  -- the variables in force behind those that a list declares
  pub declared_words : (xs : List RawParam) → words_of names (variables_of xs) ≡ variables names xs
  declared_words [] = refl
  declared_words (x ∷ xs) = ap (λ ws. word_at names x.name.number ∷ ws) (declared_words xs)

  pub inner_words : (scope : List ℕ) (xs : List RawParam) → words_of names (scope ++ variables_of xs) ≡ words_of names scope ++ variables names xs
  inner_words scope xs = map-append (word_at names) scope (variables_of xs) ∙ ap (λ ws. words_of names scope ++ ws) (declared_words xs)

  pub declared_in : (xs : List RawParam) → AreParamsIn names xs → AreKnown names (variables_of xs)
  declared_in [] is = tt
  declared_in (x ∷ xs) is = (is.0.0, declared_in xs is.1)

  pub inner_in : (scope : List ℕ) (xs : List RawParam) → AreKnown names scope → AreParamsIn names xs → AreKnown names (scope ++ variables_of xs)
  inner_in [] xs k is = declared_in xs is
  inner_in (n ∷ scope) xs k is = (k.0, inner_in scope xs k.1 is)
