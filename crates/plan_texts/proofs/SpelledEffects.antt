-- What is printed for a sound effect spells it.
use Rattle.std.proofs.Common.{ℕ, ◌≡◌, inl, List, [], ◌∷◌, ◌++◌, map, refl, sym, subst}
use Rattle.text_forms.specs.Lists.{Part}
use Rattle.text_forms.specs.Words.{Word}
use Rattle.plan_texts.specs.Declared.{Declared, variable}
use Rattle.plan_texts.specs.TypedLists.{Each}
use Rattle.plan_texts.specs.Formulas.{effect_step, IsEffect}
use Rattle.plan_texts.specs.Printed.{all_parts, applied_part, params_parts, formula_part, effect_part_step, effect_part}
use Rattle.plan_texts.specs.Printable.{IsPlainVariable, sound_effect_step, IsSoundEffect, HasWords}
use Rattle.plan_texts.specs.Types.{EachIs}
use Rattle.plan_model.specs.declared.effects.Effect.{Effect, roll-Effect}
use Rattle.plan_model.specs.declared.effects.Effect.TheFolds.{rec-roll-Effect, fold-roll-Effect, map-Effect, ind-Effect}
use Rattle.plan_model.specs.declared.effects.Effect.TheOpen.{Effect-F}
use Rattle.text_forms.specs.Printing.{IsPrintablePart, ArePrintableParts}
use Rattle.plan_texts.proofs.Places.{each-append}
use Rattle.plan_texts.proofs.Spelled.{each_is-map, spelled-atom, spelled-params, plain-scope, formula-spelled}
use Rattle.plan_texts.proofs.Effects.{effect_roll}

module _ (v : Declared) (arities : List ℕ) where
  natural : (X : Type 0) (u : X → Effect) (k : Effect → List Word → Type 0) (x : Effect-F X) → sound_effect_step v arities (λ p. k (u p)) x ≡ sound_effect_step v arities k (map-Effect X Effect u x)
  natural X u k (Effect-F.Add a) = refl
  natural X u k (Effect-F.Delete a) = refl
  natural X u k (Effect-F.And es) = λ i scope. each_is-map u (λ f. k f scope) es i
  natural X u k (Effect-F.Forall xs e) = refl
  natural X u k (Effect-F.When f e) = refl

  pub sound_roll : (x : Effect-F Effect) → IsSoundEffect v arities (roll-Effect x) ≡ sound_effect_step v arities (IsSoundEffect v arities) x
  sound_roll x = rec-roll-Effect (List Word → Type 0) (λ X u k layer. sound_effect_step v arities k layer) natural x

  pub effect-part_roll : (x : Effect-F Effect) → effect_part v (roll-Effect x) ≡ effect_part_step v (map-Effect Effect (List Word → Part) (effect_part v) x)
  effect-part_roll x = fold-roll-Effect (List Word → Part) (effect_part_step v) x

  module _ (has : HasWords v arities) where
    abbrev pub Claim : Effect → Type 0
    Claim f = (scope : List Word) → EachIs IsPlainVariable scope → IsSoundEffect v arities f scope → IsEffect v f scope (effect_part v f scope) × IsPrintablePart (effect_part v f scope)

    abbrev pub Layer : Effect-F Effect → Type 0
    Layer x = (scope : List Word) → EachIs IsPlainVariable scope → sound_effect_step v arities (IsSoundEffect v arities) x scope
        → effect_step v (IsEffect v) x scope (effect_part_step v (map-Effect Effect (List Word → Part) (effect_part v) x) scope) × IsPrintablePart (effect_part_step v (map-Effect Effect (List Word → Part) (effect_part v) x) scope)

    each : (fs : List ((f : Effect) × Claim f)) (scope : List Word) → EachIs IsPlainVariable scope → EachIs (λ f. IsSoundEffect v arities f scope) (map (λ e. e.0) fs)
        → Each (λ f. IsEffect v f scope) (map (λ e. e.0) fs) (all_parts (map (λ f. f scope) (map (effect_part v) (map (λ e. e.0) fs)))) × ArePrintableParts (all_parts (map (λ f. f scope) (map (effect_part v) (map (λ e. e.0) fs))))
    each [] scope s e = (tt, tt)
    each (f ∷ fs) scope s e = let g = f.1 scope s e.0 in let h = each fs scope s e.1 in ((g.0, h.0), (g.1, h.1))

    level : (y : Effect-F ((f : Effect) × Claim f)) → Layer (map-Effect ((f : Effect) × Claim f) Effect (λ e. e.0) y)
    level (Effect-F.Add a) scope s e = spelled-atom v arities has scope a.predicate a.args s e
    level (Effect-F.Delete a) scope s e = let g = spelled-atom v arities has scope a.predicate a.args s e in ((applied_part v scope a.predicate a.args, refl, g.0), (refl, (g.1, tt)))
    level (Effect-F.And fs) scope s e = let g = each fs scope s e in (inl (all_parts (map (λ f. f scope) (map (effect_part v) (map (λ e. e.0) fs))), refl, g.0), (refl, g.1))
    level (Effect-F.Forall xs f) scope s e =
        let g = spelled-params v arities has xs e.0.0 in let h = f.1 (scope ++ map (variable v) xs) (each-append IsPlainVariable scope (map (variable v) xs) s (plain-scope v arities has xs e.0.0)) e.1 in
        ((params_parts v xs, effect_part v f.0 (scope ++ map (variable v) xs), refl, g.0, h.0), (refl, (g.1, (h.1, tt))))
    level (Effect-F.When f g) scope s e =
        let h = formula-spelled v arities has f scope s e.0 in let i = g.1 scope s e.1 in
        ((formula_part v f scope, effect_part v g.0 scope, refl, h.0, i.0), (refl, (h.1, (i.1, tt))))

    pub effect-spelled : (f : Effect) → Claim f
    effect-spelled = ind-Effect Claim (λ x y is. subst (λ z. Claim (roll-Effect z)) is (claim (map-Effect ((f : Effect) × Claim f) Effect (λ e. e.0) y) (level y)))
      where
        claim : (x : Effect-F Effect) → Layer x → Claim (roll-Effect x)
        claim x h scope s e =
            let g = h scope s (subst (λ (z : List Word → Type 0). z scope) (sound_roll x) e) in
            subst (λ (z : List Word → Part). IsEffect v (roll-Effect x) scope (z scope) × IsPrintablePart (z scope)) (sym (effect-part_roll x)) (subst (λ (z : List Word → Part → Type 0). z scope (effect_part_step v (map-Effect Effect (List Word → Part) (effect_part v) x) scope)) (sym (effect_roll v x)) g.0, g.1)
