-- What stands in a formula or an effect, one level at a time.
use Rattle.std.proofs.Common.{◌≡◌, ◌⊎◌, List, [], ◌∷◌, map, refl, ap, sym, subst}
use Rattle.gd_reader.specs.declared.formulas.RawFormula.{RawFormula, roll-RawFormula}
use Rattle.gd_reader.specs.declared.formulas.RawFormula.TheFolds.{rec-roll-RawFormula, map-RawFormula}
use Rattle.gd_reader.specs.declared.formulas.RawFormula.TheOpen.{RawFormula-F}
use Rattle.gd_reader.specs.declared.effects.RawEffect.{RawEffect, roll-RawEffect}
use Rattle.gd_reader.specs.declared.effects.RawEffect.TheFolds.{rec-roll-RawEffect, map-RawEffect}
use Rattle.gd_reader.specs.declared.effects.RawEffect.TheOpen.{RawEffect-F}
use Rattle.gd_reader.specs.Terms.{Names}
use Rattle.htn_base.specs.Lists.{One}
use Rattle.hddl_reader.specs.names.Uses.{Scope, Use, formula_step, InFormula, effect_step, InEffect}

one-map : {X Y : Type 0} (u : X → Y) (P : Y → Type 0) (xs : List X) → One (λ x. P (u x)) xs ≡ One P (map u xs)
one-map u P [] = refl
one-map u P (x ∷ xs) = ap (λ t. P (u x) ⊎ t) (one-map u P xs)

module _ (names : Names) where
  abbrev Standing : Type 1
  Standing = Scope → Scope → Use → Type 0

  formula_natural : (X : Type 0) (u : X → RawFormula) (k : RawFormula → Standing) (x : RawFormula-F X) → formula_step names (λ p. k (u p)) x ≡ formula_step names k (map-RawFormula X RawFormula u x)
  formula_natural X u k (RawFormula-F.Holds a) = refl
  formula_natural X u k (RawFormula-F.Equal s t) = refl
  formula_natural X u k (RawFormula-F.Not f) = refl
  formula_natural X u k (RawFormula-F.And fs) = λ i outer here v. one-map u (λ f. k f outer here v) fs i
  formula_natural X u k (RawFormula-F.Or fs) = λ i outer here v. one-map u (λ f. k f outer here v) fs i
  formula_natural X u k (RawFormula-F.Imply f g) = refl
  formula_natural X u k (RawFormula-F.Forall xs f) = refl
  formula_natural X u k (RawFormula-F.Exists xs f) = refl

  in_layer : (x : RawFormula-F RawFormula) → InFormula names (roll-RawFormula x) ≡ formula_step names (InFormula names) x
  in_layer x = rec-roll-RawFormula Standing (λ X u k layer. formula_step names k layer) formula_natural x

  -- what stands in a formula is what stands in its one level
  pub formula_level : (x : RawFormula-F RawFormula) (f : RawFormula) → roll-RawFormula x ≡ f → InFormula names f ≡ formula_step names (InFormula names) x
  formula_level x f e = subst (λ f. InFormula names f ≡ formula_step names (InFormula names) x) e (in_layer x)

  pub formula_roll : (x : RawFormula-F RawFormula) (f : RawFormula) → roll-RawFormula x ≡ f → (outer here : Scope) (u : Use) → formula_step names (InFormula names) x outer here u → InFormula names f outer here u
  formula_roll x f e outer here u h = subst (λ (z : Standing). z outer here u) (sym (formula_level x f e)) h

  pub formula_unroll : (x : RawFormula-F RawFormula) (f : RawFormula) → roll-RawFormula x ≡ f → (outer here : Scope) (u : Use) → InFormula names f outer here u → formula_step names (InFormula names) x outer here u
  formula_unroll x f e outer here u h = subst (λ (z : Standing). z outer here u) (formula_level x f e) h

  effect_natural : (X : Type 0) (u : X → RawEffect) (k : RawEffect → Standing) (x : RawEffect-F X) → effect_step names (λ p. k (u p)) x ≡ effect_step names k (map-RawEffect X RawEffect u x)
  effect_natural X u k (RawEffect-F.Add a) = refl
  effect_natural X u k (RawEffect-F.Delete a) = refl
  effect_natural X u k (RawEffect-F.And es) = λ i outer here v. one-map u (λ e. k e outer here v) es i
  effect_natural X u k (RawEffect-F.Forall xs e) = refl
  effect_natural X u k (RawEffect-F.When f e) = refl

  effect_layer : (x : RawEffect-F RawEffect) → InEffect names (roll-RawEffect x) ≡ effect_step names (InEffect names) x
  effect_layer x = rec-roll-RawEffect Standing (λ X u k layer. effect_step names k layer) effect_natural x

  pub effect_level : (x : RawEffect-F RawEffect) (f : RawEffect) → roll-RawEffect x ≡ f → InEffect names f ≡ effect_step names (InEffect names) x
  effect_level x f e = subst (λ f. InEffect names f ≡ effect_step names (InEffect names) x) e (effect_layer x)

  pub effect_roll : (x : RawEffect-F RawEffect) (f : RawEffect) → roll-RawEffect x ≡ f → (outer here : Scope) (u : Use) → effect_step names (InEffect names) x outer here u → InEffect names f outer here u
  effect_roll x f e outer here u h = subst (λ (z : Standing). z outer here u) (sym (effect_level x f e)) h

  pub effect_unroll : (x : RawEffect-F RawEffect) (f : RawEffect) → roll-RawEffect x ≡ f → (outer here : Scope) (u : Use) → InEffect names f outer here u → effect_step names (InEffect names) x outer here u
  effect_unroll x f e outer here u h = subst (λ (z : Standing). z outer here u) (effect_level x f e) h
