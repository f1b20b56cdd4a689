-- An effect without faults is bound to what it stands for.
use Rattle.std.proofs.Common.{ℕ, ◌≡◌, inl, inr, List, [], ◌∷◌, ◌++◌, map, refl, sym, subst, ◌∙◌}
use Rattle.std.specs.Prelude.{flat_map}
use Rattle.text_forms.specs.Words.{Word}
use Rattle.gd_reader.specs.declared.effects.RawEffect.{RawEffect, roll-RawEffect}
use Rattle.gd_reader.specs.declared.effects.RawEffect.TheFolds.{map-RawEffect, ind-RawEffect}
use Rattle.gd_reader.specs.declared.effects.RawEffect.TheOpen.{RawEffect-F}
use Rattle.gd_reader.specs.Terms.{Names}
use Rattle.hddl_reader.specs.declared.sections.RawDomain.{RawDomain}
use Rattle.plan_texts.specs.Declared.{Declared}
use Rattle.plan_texts.specs.Together.{Together}
use Rattle.plan_texts.specs.Types.{EachIs}
use Rattle.plan_model.specs.declared.effects.Effect.{Effect}
use Rattle.text_values.specs.form_spellings.Bound.{bound_effect_step, IsBoundEffect}
use Rattle.text_values.specs.form_spellings.EachName.{effect_of_step}
use Rattle.text_values.specs.form_spellings.InTable.{IsNameIn, IsEffectIn}
use Rattle.htn_base.specs.Lists.{One}
use Rattle.hddl_reader.specs.names.Uses.{declares, InEffect}
use Rattle.hddl_reader.specs.names.Uses as uses
use Rattle.hddl_reader.proofs.names.Rolls.{effect_roll}
use Rattle.name_binding.specs.declared.faults.Spot.{Spot}
use Rattle.name_binding.specs.Entered.{variables_of}
use Rattle.name_binding.specs.Typed.{params_bound, params_faults}
use Rattle.name_binding.specs.declared.known.Known.{Known}
use Rattle.name_binding.specs.Atoms.{atom_bound}
use Rattle.name_binding.specs.Formulas.{formula_bound, formula_faults}
use Rattle.name_binding.specs.Effects.{effect_step, effect_bound, effect_faults_step, effect_faults}
use Rattle.name_binding.proofs.Parts.{effect_level, effect_faults_level}
use Rattle.text_values.specs.form_spellings.binding_laws.Known.{IsKnownOf, HasKnown}
use Rattle.text_values.specs.form_spellings.binding_laws.Numbers.{words_of, AreKnown}
use Rattle.text_values.specs.form_spellings.binding_laws.Formulas.{AreNumberedIn, IsEffectBound, OfAllKnown}
use Rattle.text_values.proofs.form_spellings.binding_laws.Atoms.{atom_is}
use Rattle.text_values.proofs.form_spellings.binding_laws.BoundLayers.{bound_effect}
use Rattle.text_values.proofs.form_spellings.binding_laws.FormulaValues.{params_are, inner_is, inner_numbered, formula_is}
use Rattle.text_values.proofs.form_spellings.binding_laws.Layers.{effect_in, inner_in}
use Rattle.text_values.proofs.form_spellings.binding_laws.Written.{none_left, none_right}

module _ (names : Names) (d : RawDomain) (objects : List Word) (known : Known) (of : IsKnownOf names d objects known) (v : Declared) (has : HasKnown v names known) where
  abbrev stands : RawEffect → List ℕ → Effect
  stands e scope = effect_bound known scope e

  abbrev faults : RawEffect → List ℕ → List Spot
  faults e scope = effect_faults known scope e

  abbrev Claim : RawEffect → Type 0
  Claim e = (scope : List ℕ) → AreKnown names scope → IsEffectIn names e → AreNumberedIn names known.types (InEffect names e (words_of names scope)) → effect_faults known scope e ≡ []
      → IsBoundEffect v names e (words_of names scope) (effect_bound known scope e)

  abbrev Proved : Type 0
  Proved = (e : RawEffect) × Claim e

  abbrev effects : List Proved → List RawEffect
  effects es = map (λ e. e.0) es

  many : (es : List Proved) (scope : List ℕ) → AreKnown names scope → EachIs (IsEffectIn names) (effects es) → AreNumberedIn names known.types (λ here u. One (λ e. InEffect names e (words_of names scope) here u) (effects es))
      → flat_map (λ e. e scope) (map faults (effects es)) ≡ [] → Together (λ r g. IsBoundEffect v names r (words_of names scope) g) (effects es) (map (λ e. e scope) (map stands (effects es)))
  many [] scope k is n e = tt
  many (f ∷ fs) scope k is n e = (
    f.1 scope k is.0 (λ here x s. n here x (inl s)) (none_left (faults f.0 scope) (flat_map (λ e. e scope) (map faults (effects fs))) e),
    many fs scope k is.1 (λ here x s. n here x (inr s)) (none_right (faults f.0 scope) (flat_map (λ e. e scope) (map faults (effects fs))) e),
  )

  abbrev opened : RawEffect-F Proved → RawEffect-F RawEffect
  opened y = map-RawEffect Proved RawEffect (λ e. e.0) y

  abbrev Level : RawEffect-F RawEffect → List ℕ → Type 0
  Level x scope = AreNumberedIn names known.types (uses.effect_step names (InEffect names) x (words_of names scope)) → effect_faults_step known (map-RawEffect RawEffect (List ℕ → List Spot) faults x) scope ≡ []
      → bound_effect_step v names (IsBoundEffect v names) x (words_of names scope) (effect_step known (map-RawEffect RawEffect (List ℕ → Effect) stands x) scope)

  level : (y : RawEffect-F Proved) (scope : List ℕ) → AreKnown names scope → effect_of_step (IsNameIn names) (IsEffectIn names) (opened y) → Level (opened y) scope
  level (RawEffect-F.Add a) scope k is n e = ((atom_bound known scope a).predicate, (atom_bound known scope a).args, refl, atom_is names d objects known of v has scope a k is e)
  level (RawEffect-F.Delete a) scope k is n e = ((atom_bound known scope a).predicate, (atom_bound known scope a).args, refl, atom_is names d objects known of v has scope a k is e)
  level (RawEffect-F.And es) scope k is n e = (map (λ e. e scope) (map stands (effects es)), refl, many es scope k is n e)
  level (RawEffect-F.Forall xs f) scope k is n e =
      let inner = f.1 (scope ++ variables_of xs) (inner_in names scope xs k is.0) is.1
      (inner_numbered names d objects known of v has scope xs (InEffect names f.0) (λ here x s. n here x (inr s)))
      (none_right (params_faults known.types xs) (faults f.0 (scope ++ variables_of xs)) e) in (
        params_bound known.types xs,
        stands f.0 (scope ++ variables_of xs),
        refl,
        params_are names d objects known of v has xs is.0 (λ x s. n [] x (inl s)) (none_left (params_faults known.types xs) (faults f.0 (scope ++ variables_of xs)) e),
        subst (λ ws. IsBoundEffect v names f.0 ws (stands f.0 (scope ++ variables_of xs))) (inner_is names d objects known of v has scope xs) inner,
      )
  level (RawEffect-F.When f g) scope k is n e = (
    formula_bound known scope f,
    stands g.0 scope,
    refl,
    formula_is names d objects known of v has f scope k is.0 (λ here x s. n here x (inl s)) (none_left (formula_faults known scope f) (faults g.0 scope) e),
    g.1 scope k is.1 (λ here x s. n here x (inr s)) (none_right (formula_faults known scope f) (faults g.0 scope) e),
  )

  claim : (x : RawEffect-F RawEffect) → ((scope : List ℕ) → AreKnown names scope → effect_of_step (IsNameIn names) (IsEffectIn names) x → Level x scope) → Claim (roll-RawEffect x)
  claim x is scope k i n e =
      bound_effect v names x (words_of names scope) (effect_bound known scope (roll-RawEffect x))
      (subst (λ g. bound_effect_step v names (IsBoundEffect v names) x (words_of names scope) g) (sym (effect_level known x (roll-RawEffect x) refl scope))
      (is scope k (effect_in names x i) (λ here y s. n here y (effect_roll names x (roll-RawEffect x) refl (words_of names scope) here (declares y) s)) (sym (effect_faults_level known x (roll-RawEffect x) refl scope) ∙ e)))

  pub effect_is : (e : RawEffect) → Claim e
  effect_is = ind-RawEffect Claim (λ x y is. subst (λ z. Claim (roll-RawEffect z)) is (claim (opened y) (level y)))

pub is_effect_bound : OfAllKnown IsEffectBound
is_effect_bound names d objects known v scope e of k is has n f = effect_is names d objects known of v has e scope k is n f
