-- The faults of an effect are those of its declarations and uses.
use Rattle.std.proofs.Common.{ℕ, inl, inr, List, [], ◌∷◌, ◌++◌, map, refl, sym, subst}
use Rattle.std.specs.Prelude.{◌↔◌, flat_map}
use Rattle.text_forms.specs.Words.{Word}
use Rattle.gd_reader.specs.declared.effects.RawEffect.{RawEffect, roll-RawEffect}
use Rattle.gd_reader.specs.declared.effects.RawEffect.TheFolds.{map-RawEffect, ind-RawEffect}
use Rattle.gd_reader.specs.declared.effects.RawEffect.TheOpen.{RawEffect-F}
use Rattle.gd_reader.specs.Terms.{Names}
use Rattle.hddl_reader.specs.declared.sections.RawDomain.{RawDomain}
use Rattle.plan_texts.specs.Types.{EachIs}
use Rattle.text_values.specs.form_spellings.EachName.{effect_of_step}
use Rattle.text_values.specs.form_spellings.InTable.{IsNameIn, IsEffectIn}
use Rattle.htn_base.specs.Lists.{One, Has}
use Rattle.hddl_reader.specs.names.Uses.{Scope, Use, effect_step, InFormula, InEffect}
use Rattle.hddl_reader.proofs.names.Rolls.{effect_roll, effect_unroll}
use Rattle.name_binding.specs.declared.faults.Spot.{Spot}
use Rattle.name_binding.specs.Entered.{variables_of}
use Rattle.name_binding.specs.Spots.{spot}
use Rattle.name_binding.specs.declared.known.Known.{Known}
use Rattle.name_binding.specs.Formulas.{formula_faults}
use Rattle.name_binding.specs.Effects.{effect_faults_step, effect_faults}
use Rattle.name_binding.proofs.Parts.{effect_faults_level}
use Rattle.text_values.specs.form_spellings.binding_laws.Known.{IsKnownOf}
use Rattle.text_values.specs.form_spellings.binding_laws.Numbers.{words_of, AreKnown}
use Rattle.text_values.specs.form_spellings.binding_laws.Formulas.{HasEffectFaults, OfAllKnown}
use Rattle.text_values.proofs.form_spellings.binding_laws.Atoms.{Here, atom_there, atom_back}
use Rattle.text_values.proofs.form_spellings.binding_laws.FormulaFaults.{both_there, both_back, quantified_there, quantified_back, formula_has}
use Rattle.text_values.proofs.form_spellings.binding_laws.Layers.{effect_in, inner_in}
use Rattle.text_values.proofs.form_spellings.binding_laws.Lists.{append_there, append_left, append_right}
use Rattle.text_values.proofs.form_spellings.binding_laws.Somewhere.{Somewhere, one_there, one_back}

module _ (names : Names) (d : RawDomain) (objects : List Word) (known : Known) (of : IsKnownOf names d objects known) (code at : ℕ) where
  abbrev Q : Scope → Use → Type 0
  Q = Here names d objects known of code at

  abbrev faults : RawEffect → List ℕ → List Spot
  faults e scope = effect_faults known scope e

  abbrev Claim : RawEffect → Type 0
  Claim e = (scope : List ℕ) → AreKnown names scope → IsEffectIn names e → Has (effect_faults known scope e) (spot at code) ↔ Somewhere Q (InEffect names e (words_of names scope))

  abbrev Proved : Type 0
  Proved = (e : RawEffect) × Claim e

  abbrev effects : List Proved → List RawEffect
  effects es = map (λ e. e.0) es

  parts_there : (es : List Proved) (scope : List ℕ) → AreKnown names scope → EachIs (IsEffectIn names) (effects es) → Has (flat_map (λ e. e scope) (map faults (effects es))) (spot at code) → One (λ e. Somewhere Q (InEffect names e (words_of names scope))) (effects es)
  parts_there [] scope k is h = absurd h
  parts_there (f ∷ fs) scope k is h = elim (append_there (faults f.0 scope) (flat_map (λ e. e scope) (map faults (effects fs))) (spot at code) h) [
    | inl i ↦ inl ((f.1 scope k is.0).0 i)
    | inr i ↦ inr (parts_there fs scope k is.1 i)
  ]

  parts_back : (es : List Proved) (scope : List ℕ) → AreKnown names scope → EachIs (IsEffectIn names) (effects es) → One (λ e. Somewhere Q (InEffect names e (words_of names scope))) (effects es) → Has (flat_map (λ e. e scope) (map faults (effects es))) (spot at code)
  parts_back [] scope k is o = absurd o
  parts_back (f ∷ fs) scope k is (inl i) = append_left (faults f.0 scope) (flat_map (λ e. e scope) (map faults (effects fs))) (spot at code) ((f.1 scope k is.0).1 i)
  parts_back (f ∷ fs) scope k is (inr i) = append_right (faults f.0 scope) (flat_map (λ e. e scope) (map faults (effects fs))) (spot at code) (parts_back fs scope k is.1 i)

  abbrev opened : RawEffect-F Proved → RawEffect-F RawEffect
  opened y = map-RawEffect Proved RawEffect (λ e. e.0) y

  abbrev Level : RawEffect-F RawEffect → List ℕ → Type 0
  Level x scope = Has (effect_faults_step known (map-RawEffect RawEffect (List ℕ → List Spot) faults x) scope) (spot at code) ↔ Somewhere Q (effect_step names (InEffect names) x (words_of names scope))

  level : (y : RawEffect-F Proved) (scope : List ℕ) → AreKnown names scope → effect_of_step (IsNameIn names) (IsEffectIn names) (opened y) → Level (opened y) scope
  level (RawEffect-F.Add a) scope k is = (atom_there names d objects known of scope a code at k is, atom_back names d objects known of scope a code at k is)
  level (RawEffect-F.Delete a) scope k is = (atom_there names d objects known of scope a code at k is, atom_back names d objects known of scope a code at k is)
  level (RawEffect-F.And es) scope k is = (
    λ h. one_back Q (λ e. InEffect names e (words_of names scope)) (effects es) (parts_there es scope k is h),
    λ s. parts_back es scope k is (one_there Q (λ e. InEffect names e (words_of names scope)) (effects es) s),
  )
  level (RawEffect-F.Forall xs e) scope k is =
      let E = e.1 (scope ++ variables_of xs) (inner_in names scope xs k is.0) is.1 in (
        quantified_there names d objects known of code at scope xs (faults e.0) (InEffect names e.0) is.0 E.0,
        quantified_back names d objects known of code at scope xs (faults e.0) (InEffect names e.0) is.0 E.1,
      )
  level (RawEffect-F.When f e) scope k is =
      let F = formula_has names d objects known of code at f scope k is.0 in
      let E = e.1 scope k is.1 in (
        both_there names d objects known of code at (formula_faults known scope f) (faults e.0 scope) (InFormula names f (words_of names scope)) (InEffect names e.0 (words_of names scope)) F.0 E.0,
        both_back names d objects known of code at (formula_faults known scope f) (faults e.0 scope) (InFormula names f (words_of names scope)) (InEffect names e.0 (words_of names scope)) F.1 E.1,
      )

  claim : (x : RawEffect-F RawEffect) → ((scope : List ℕ) → AreKnown names scope → effect_of_step (IsNameIn names) (IsEffectIn names) x → Level x scope) → Claim (roll-RawEffect x)
  claim x is scope k i =
      let L = is scope k (effect_in names x i) in
      let e = effect_faults_level known x (roll-RawEffect x) refl scope in (
        λ h. let s = L.0 (subst (λ ss. Has ss (spot at code)) e h) in (s.0, s.1, effect_roll names x (roll-RawEffect x) refl (words_of names scope) s.0 s.1 s.2, s.3),
        λ s. subst (λ ss. Has ss (spot at code)) (sym e) (L.1 (s.0, s.1, effect_unroll names x (roll-RawEffect x) refl (words_of names scope) s.0 s.1 s.2, s.3)),
      )

  pub effect_has : (e : RawEffect) → Claim e
  effect_has = ind-RawEffect Claim (λ x y is. subst (λ z. Claim (roll-RawEffect z)) is (claim (opened y) (level y)))

pub has_effect_faults : OfAllKnown HasEffectFaults
has_effect_faults names d objects known scope e code at of k is = effect_has names d objects known of code at e scope k is
