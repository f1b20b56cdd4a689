-- A table with the printed words of all names has those of each formula's and each effect's variables.
use Rattle.std.proofs.Common.{List, [], ◌∷◌, map, sym, subst}
use Rattle.htn_base.specs.declared.name.Name.{Name}
use Rattle.text_forms.specs.Words.{Word}
use Rattle.plan_model.specs.declared.terms.Param.{Param}
use Rattle.plan_model.specs.declared.formulas.Formula.{Formula, roll-Formula}
use Rattle.plan_model.specs.declared.formulas.Formula.TheFolds.{fold-roll-Formula, map-Formula, ind-Formula}
use Rattle.plan_model.specs.declared.formulas.Formula.TheOpen.{Formula-F}
use Rattle.plan_model.specs.declared.effects.Effect.{Effect, roll-Effect}
use Rattle.plan_model.specs.declared.effects.Effect.TheFolds.{fold-roll-Effect, map-Effect, ind-Effect}
use Rattle.plan_model.specs.declared.effects.Effect.TheOpen.{Effect-F}
use Rattle.plan_texts.specs.Types.{Has, EachIs}
use Rattle.plan_texts.proofs.Places.{each-join}
use Rattle.slot_encoding.specs.SourceParts.{source_word}
use Rattle.slot_encoding.specs.EncodedNames.{joined}
use Rattle.slot_encoding.specs.EncodedWords.{param_words, formula_words_step, formula_words, effect_words_step, effect_words}
use Rattle.slot_encoding.proofs.words.Lists.{each-map}

module _ (source names : List Word) (own : (n : Name) → Has names (source_word source n)) where
  abbrev Known : List Word → Type 0
  Known = EachIs (Has names)

  pub own-params : (ps : List Param) → Known (param_words source ps)
  own-params ps = each-map (Has names) (λ (x : Param). source_word source x.name) ps (λ x h. own x.name)

  abbrev FormulaClaim : Formula → Type 0
  FormulaClaim f = Known (formula_words source f)

  parts : (fs : List ((f : Formula) × FormulaClaim f)) → Known (joined (map (formula_words source) (map (λ e. e.0) fs)))
  parts [] = tt
  parts (e ∷ fs) = each-join (Has names) (formula_words source e.0) (joined (map (formula_words source) (map (λ e. e.0) fs))) e.1 (parts fs)

  level : (y : Formula-F ((f : Formula) × FormulaClaim f)) → Known (formula_words_step source (map-Formula Formula (List Word) (formula_words source) (map-Formula ((f : Formula) × FormulaClaim f) Formula (λ e. e.0) y)))
  level (Formula-F.Holds a) = tt
  level (Formula-F.Equal s t) = tt
  level (Formula-F.Not f) = f.1
  level (Formula-F.And fs) = parts fs
  level (Formula-F.Or fs) = parts fs
  level (Formula-F.Imply f g) = each-join (Has names) (formula_words source f.0) (formula_words source g.0) f.1 g.1
  level (Formula-F.Forall ps f) = each-join (Has names) (param_words source ps) (formula_words source f.0) (own-params ps) f.1
  level (Formula-F.Exists ps f) = each-join (Has names) (param_words source ps) (formula_words source f.0) (own-params ps) f.1

  pub own-formula : (f : Formula) → FormulaClaim f
  own-formula = ind-Formula FormulaClaim (λ x y is. subst (λ z. FormulaClaim (roll-Formula z)) is (claim (map-Formula ((f : Formula) × FormulaClaim f) Formula (λ e. e.0) y) (level y)))
    where
      claim : (x : Formula-F Formula) → Known (formula_words_step source (map-Formula Formula (List Word) (formula_words source) x)) → FormulaClaim (roll-Formula x)
      claim x h = subst Known (sym (fold-roll-Formula (List Word) (formula_words_step source) x)) h

  abbrev EffectClaim : Effect → Type 0
  EffectClaim e = Known (effect_words source e)

  effect_parts : (es : List ((e : Effect) × EffectClaim e)) → Known (joined (map (effect_words source) (map (λ e. e.0) es)))
  effect_parts [] = tt
  effect_parts (e ∷ es) = each-join (Has names) (effect_words source e.0) (joined (map (effect_words source) (map (λ e. e.0) es))) e.1 (effect_parts es)

  effect_level : (y : Effect-F ((e : Effect) × EffectClaim e)) → Known (effect_words_step source (map-Effect Effect (List Word) (effect_words source) (map-Effect ((e : Effect) × EffectClaim e) Effect (λ e. e.0) y)))
  effect_level (Effect-F.Add a) = tt
  effect_level (Effect-F.Delete a) = tt
  effect_level (Effect-F.And es) = effect_parts es
  effect_level (Effect-F.Forall ps e) = each-join (Has names) (param_words source ps) (effect_words source e.0) (own-params ps) e.1
  effect_level (Effect-F.When f e) = each-join (Has names) (formula_words source f) (effect_words source e.0) (own-formula f) e.1

  pub own-effect : (e : Effect) → EffectClaim e
  own-effect = ind-Effect EffectClaim (λ x y is. subst (λ z. EffectClaim (roll-Effect z)) is (claim (map-Effect ((e : Effect) × EffectClaim e) Effect (λ e. e.0) y) (effect_level y)))
    where
      claim : (x : Effect-F Effect) → Known (effect_words_step source (map-Effect Effect (List Word) (effect_words source) x)) → EffectClaim (roll-Effect x)
      claim x h = subst Known (sym (fold-roll-Effect (List Word) (effect_words_step source) x)) h
