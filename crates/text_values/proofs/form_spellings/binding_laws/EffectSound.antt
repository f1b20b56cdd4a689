-- An effect without faults is bound to one whose numbers name what is declared.
use Rattle.std.proofs.Common.{ℕ, ◌≡◌, inl, inr, List, [], ◌∷◌, ◌++◌, map, refl, sym, subst, ◌∙◌}
use Rattle.std.specs.Prelude.{flat_map, length, ◌≤◌}
use Rattle.text_forms.specs.Words.{Word}
use Rattle.gd_reader.specs.declared.effects.RawEffect.{RawEffect, roll-RawEffect}
use Rattle.gd_reader.specs.declared.effects.RawEffect.TheFolds.{map-RawEffect, ind-RawEffect}
use Rattle.gd_reader.specs.declared.effects.RawEffect.TheOpen.{RawEffect-F}
use Rattle.gd_reader.specs.Terms.{Names}
use Rattle.hddl_reader.specs.declared.sections.RawDomain.{RawDomain}
use Rattle.plan_model.specs.declared.effects.Effect.{Effect, roll-Effect}
use Rattle.plan_model.specs.declared.effects.Effect.TheFolds.{rec-roll-Effect, map-Effect}
use Rattle.plan_model.specs.declared.effects.Effect.TheOpen.{Effect-F}
use Rattle.plan_model.specs.declared.effects.Effect.TheVariants as effect
use Rattle.plan_texts.specs.Declared.{Declared}
use Rattle.plan_texts.specs.Printable.{sound_effect_step, IsSoundEffect}
use Rattle.plan_texts.specs.Types.{EachIs}
use Rattle.plan_texts.proofs.Spelled.{each_is-map}
use Rattle.text_values.specs.form_spellings.EachName.{effect_of_step}
use Rattle.text_values.specs.form_spellings.InTable.{IsNameIn, IsEffectIn}
use Rattle.htn_base.specs.Lists.{One}
use Rattle.hddl_reader.specs.names.Uses.{declares, InEffect}
use Rattle.hddl_reader.specs.names.Uses as uses
use Rattle.hddl_reader.proofs.names.Rolls.{effect_roll}
use Rattle.name_binding.specs.declared.faults.Spot.{Spot}
use Rattle.name_binding.specs.Entered.{variables_of}
use Rattle.name_binding.specs.Typed.{params_bound, params_faults}
use Rattle.name_binding.specs.declared.known.Known.{Known}
use Rattle.name_binding.specs.Atoms.{atom_bound}
use Rattle.name_binding.specs.Effects.{effect_step, effect_bound, effect_faults_step, effect_faults}
use Rattle.name_binding.specs.Formulas.{formula_bound, formula_faults}
use Rattle.name_binding.proofs.Parts.{effect_level, effect_faults_level}
use Rattle.text_values.specs.form_spellings.binding_laws.EachList.{effect_listed_step, OfEachListOfEffect}
use Rattle.text_values.specs.form_spellings.binding_laws.Formulas.{AreNumberedIn}
use Rattle.text_values.specs.form_spellings.binding_laws.InOrder.{AreParameters}
use Rattle.text_values.specs.form_spellings.binding_laws.Known.{IsKnownOf, HasKnown}
use Rattle.text_values.specs.form_spellings.binding_laws.Numbers.{words_of, AreKnown}
use Rattle.text_values.proofs.form_spellings.binding_laws.FormulaSound.{arities_of, atom_sound, params_sound, formula_sound}
use Rattle.text_values.proofs.form_spellings.binding_laws.FormulaValues.{inner_is, inner_numbered}
use Rattle.text_values.proofs.form_spellings.binding_laws.Layers.{effect_in, inner_in}
use Rattle.text_values.proofs.form_spellings.binding_laws.Written.{none_left, none_right}
use Rattle.text_values.proofs.form_spellings.binding_laws.WrittenEffects.{effect_listed}

module _ (v : Declared) (arities : List ℕ) where
  natural : (X : Type 0) (u : X → Effect) (k : Effect → List Word → Type 0) (x : Effect-F X) → sound_effect_step v arities (λ p. k (u p)) x ≡ sound_effect_step v arities k (map-Effect X Effect u x)
  natural X u k (Effect-F.Add a) = refl
  natural X u k (Effect-F.Delete a) = refl
  natural X u k (Effect-F.And es) = λ i scope. each_is-map u (λ e. k e scope) es i
  natural X u k (Effect-F.Forall xs e) = refl
  natural X u k (Effect-F.When f e) = refl

  effect-sound_roll : (x : Effect-F Effect) → IsSoundEffect v arities (roll-Effect x) ≡ sound_effect_step v arities (IsSoundEffect v arities) x
  effect-sound_roll x = rec-roll-Effect (List Word → Type 0) (λ X u k layer. sound_effect_step v arities k layer) natural x

module _ (names : Names) (d : RawDomain) (objects : List Word) (known : Known) (of : IsKnownOf names d objects known) (v : Declared) (has : HasKnown v names known) (arities : List ℕ) (are : arities ≡ arities_of known.predicates) (others : List Word) (enough : length v.objects ≤ length others) where
  abbrev w : Declared
  w = record { names = v.names; types = v.types; unions = v.unions; objects = others; predicates = v.predicates }

  sound_by : (f : Effect) (l : Effect-F Effect) → roll-Effect l ≡ f → (scope : List Word) → sound_effect_step w arities (IsSoundEffect w arities) l scope → IsSoundEffect w arities f scope
  sound_by f l e scope s = subst (λ f. IsSoundEffect w arities f scope) e (subst (λ (z : List Word → Type 0). z scope) (sym (effect-sound_roll w arities l)) s)

  abbrev stands : RawEffect → List ℕ → Effect
  stands e scope = effect_bound known scope e

  abbrev faults : RawEffect → List ℕ → List Spot
  faults e scope = effect_faults known scope e

  abbrev Claim : RawEffect → Type 0
  Claim e = (scope : List ℕ) → AreKnown names scope → IsEffectIn names e → OfEachListOfEffect (AreParameters names) e → AreNumberedIn names known.types (InEffect names e (words_of names scope)) → effect_faults known scope e ≡ []
      → IsSoundEffect w arities (effect_bound known scope e) (words_of names scope)

  abbrev Proved : Type 0
  Proved = (e : RawEffect) × Claim e

  abbrev effects : List Proved → List RawEffect
  effects es = map (λ e. e.0) es

  many : (es : List Proved) (scope : List ℕ) → AreKnown names scope → EachIs (IsEffectIn names) (effects es) → EachIs (OfEachListOfEffect (AreParameters names)) (effects es) → AreNumberedIn names known.types (λ here u. One (λ e. InEffect names e (words_of names scope) here u) (effects es))
      → flat_map (λ e. e scope) (map faults (effects es)) ≡ [] → EachIs (λ g. IsSoundEffect w arities g (words_of names scope)) (map (λ e. e scope) (map stands (effects es)))
  many [] scope k is l n e = tt
  many (f ∷ fs) scope k is l n e = (
    f.1 scope k is.0 l.0 (λ here x s. n here x (inl s)) (none_left (faults f.0 scope) (flat_map (λ e. e scope) (map faults (effects fs))) e),
    many fs scope k is.1 l.1 (λ here x s. n here x (inr s)) (none_right (faults f.0 scope) (flat_map (λ e. e scope) (map faults (effects fs))) e),
  )

  abbrev opened : RawEffect-F Proved → RawEffect-F RawEffect
  opened y = map-RawEffect Proved RawEffect (λ e. e.0) y

  abbrev Level : RawEffect-F RawEffect → List ℕ → Type 0
  Level x scope = AreNumberedIn names known.types (uses.effect_step names (InEffect names) x (words_of names scope)) → effect_faults_step known (map-RawEffect RawEffect (List ℕ → List Spot) faults x) scope ≡ []
      → IsSoundEffect w arities (effect_step known (map-RawEffect RawEffect (List ℕ → Effect) stands x) scope) (words_of names scope)

  level : (y : RawEffect-F Proved) (scope : List ℕ) → AreKnown names scope → effect_of_step (IsNameIn names) (IsEffectIn names) (opened y) → effect_listed_step (AreParameters names) (OfEachListOfEffect (AreParameters names)) (opened y) → Level (opened y) scope
  level (RawEffect-F.Add a) scope k is l n e = sound_by (effect.Add (atom_bound known scope a)) (Effect-F.Add (atom_bound known scope a)) (effect.rolls-Add (atom_bound known scope a)) (words_of names scope) (atom_sound names d objects known of v has arities are others enough scope a k is e)
  level (RawEffect-F.Delete a) scope k is l n e = sound_by (effect.Delete (atom_bound known scope a)) (Effect-F.Delete (atom_bound known scope a)) (effect.rolls-Delete (atom_bound known scope a)) (words_of names scope) (atom_sound names d objects known of v has arities are others enough scope a k is e)
  level (RawEffect-F.And es) scope k is l n e =
      let gs = map (λ e. e scope) (map stands (effects es)) in
      sound_by (effect.And gs) (Effect-F.And gs) (effect.rolls-And gs) (words_of names scope) (many es scope k is l n e)
  level (RawEffect-F.Forall xs f) scope k is l n e =
      let ps = params_bound known.types xs in
      let g = stands f.0 (scope ++ variables_of xs) in
      let part = f.1 (scope ++ variables_of xs) (inner_in names scope xs k is.0) is.1 l.1
      (inner_numbered names d objects known of v has scope xs (InEffect names f.0) (λ here x s. n here x (inr s)))
      (none_right (params_faults known.types xs) (faults f.0 (scope ++ variables_of xs)) e) in
      sound_by (effect.Forall ps g) (Effect-F.Forall ps g) (effect.rolls-Forall ps g) (words_of names scope) (
        params_sound names d objects known of v has arities are others enough xs is.0 l.0 (λ x s. n [] x (inl s)) (none_left (params_faults known.types xs) (faults f.0 (scope ++ variables_of xs)) e),
        subst (λ ws. IsSoundEffect w arities g ws) (inner_is names d objects known of v has scope xs) part,
      )
  level (RawEffect-F.When f g) scope k is l n e =
      let c = formula_bound known scope f in
      sound_by (effect.When c (stands g.0 scope)) (Effect-F.When c (stands g.0 scope)) (effect.rolls-When c (stands g.0 scope)) (words_of names scope) (
        formula_sound names d objects known of v has arities are others enough f scope k is.0 l.0 (λ here x s. n here x (inl s)) (none_left (formula_faults known scope f) (faults g.0 scope) e),
        g.1 scope k is.1 l.1 (λ here x s. n here x (inr s)) (none_right (formula_faults known scope f) (faults g.0 scope) e),
      )

  claim : (x : RawEffect-F RawEffect) → ((scope : List ℕ) → AreKnown names scope → effect_of_step (IsNameIn names) (IsEffectIn names) x → effect_listed_step (AreParameters names) (OfEachListOfEffect (AreParameters names)) x → Level x scope) → Claim (roll-RawEffect x)
  claim x is scope k i l n e =
      subst (λ g. IsSoundEffect w arities g (words_of names scope)) (sym (effect_level known x (roll-RawEffect x) refl scope))
      (is scope k (effect_in names x i) (effect_listed (AreParameters names) x l) (λ here y s. n here y (effect_roll names x (roll-RawEffect x) refl (words_of names scope) here (declares y) s)) (sym (effect_faults_level known x (roll-RawEffect x) refl scope) ∙ e))

  pub effect_sound : (e : RawEffect) → Claim e
  effect_sound = ind-RawEffect Claim (λ x y is. subst (λ z. Claim (roll-RawEffect z)) is (claim (opened y) (level y)))
