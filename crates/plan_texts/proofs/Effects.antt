-- One reading of each nested list as an effect. So all effects that it spells are alike.
use Rattle.std.proofs.Common.{ℕ, ◌≡◌, ◌⊎◌, inl, inr, cond, List, [], ◌∷◌, ◌++◌, map, codes, refl, ap, ap₂, sym, subst, ◌∙◌}
use Rattle.std.proofs.lemmas.Bool.{cond-true}
use Rattle.text_forms.specs.Lists.{Part, Parts, name, group, nothing, part}
use Rattle.text_forms.specs.Words.{Word, is_name, first_place}
use Rattle.std.specs.Str.{bytes_eq}
use Rattle.plan_texts.specs.Declared.{Declared, variable}
use Rattle.plan_texts.specs.TypedLists.{Each}
use Rattle.text_forms.specs.Printing.{headed}
use Rattle.plan_texts.specs.Formulas.{IsApplied, effect_step, IsEffect}
use Rattle.plan_texts.specs.Said.{Typed, Saids, Done, adds, deletes, both, for_every, when, Dones, no_more, and_more, dones, done_step, done}
use Rattle.plan_model.specs.declared.terms.Term.{Term}
use Rattle.plan_model.specs.declared.effects.Effect.{Effect, roll-Effect}
use Rattle.plan_model.specs.declared.effects.Effect.TheFolds.{rec-roll-Effect, fold-roll-Effect, map-Effect, ind-Effect}
use Rattle.plan_model.specs.declared.effects.Effect.TheOpen.{Effect-F}
use Rattle.plan_texts.proofs.Basics.{items}
use Rattle.plan_texts.proofs.Readings.{or_zero, param_said, first_said, declared, terms_said, readings, each-map, empty-map, terms-said, params-said, scope-said, formula-said}

abbrev first_done : Dones → Done
first_done no_more = both no_more
first_done (and_more d ds) = d

abbrev behind : Dones → Dones
behind no_more = no_more
behind (and_more d ds) = ds

abbrev taken_back : Done → Done
taken_back (adds n ts) = deletes n ts
taken_back (deletes n ts) = both no_more
taken_back (both ds) = both no_more
taken_back (for_every xs d) = both no_more
taken_back (when f d) = both no_more

abbrev by_keyword : Word → Dones → Saids → Done → List Typed → Done
by_keyword w ds ss inner xs =
    cond (bytes_eq w (codes "and")) (both ds) (cond (bytes_eq w (codes "not")) (taken_back (first_done ds))
    (cond (bytes_eq w (codes "forall")) (for_every xs inner) (cond (bytes_eq w (codes "when")) (when (first_said ss) (first_done (behind ds))) (both no_more))))

module _ (objects : List Word) (predicates : List Word) where
  abbrev mutual
    pub reading : List Word → Part → Done
    reading scope (name w) = both no_more
    reading scope (group nothing) = both no_more
    reading scope (group (part (group ps) qs)) = both no_more
    reading scope (group (part (name w) ps)) =
        cond (is_name w) (adds (or_zero (first_place w predicates)) (terms_said objects predicates scope ps)) (by_keyword w (done_readings scope ps) (readings objects predicates scope ps) (inner scope ps) (declared ps))

    done_readings : List Word → Parts → Dones
    done_readings scope nothing = no_more
    done_readings scope (part p ps) = and_more (reading scope p) (done_readings scope ps)

    inner : List Word → Parts → Done
    inner scope nothing = both no_more
    inner scope (part p nothing) = both no_more
    inner scope (part (name w) (part q qs)) = both no_more
    inner scope (part (group xs) (part q qs)) = reading (scope ++ map (λ x. x.0) (map param_said (items xs))) q

module _ (v : Declared) where
  natural : (X : Type 0) (u : X → Effect) (k : Effect → List Word → Part → Type 0) (x : Effect-F X) → effect_step v (λ p. k (u p)) x ≡ effect_step v k (map-Effect X Effect u x)
  natural X u k (Effect-F.Add a) = refl
  natural X u k (Effect-F.Delete a) = refl
  natural X u k (Effect-F.And es) = λ i scope p. ((ps : Parts) × (p ≡ headed (codes "and") ps) × each-map u (λ f. k f scope) es ps i) ⊎ (empty-map u es i × ((p ≡ group nothing) ⊎ ((ps : Parts) × (p ≡ headed (codes "increase") ps))))
  natural X u k (Effect-F.Forall xs e) = refl
  natural X u k (Effect-F.When f e) = refl

  pub effect_roll : (x : Effect-F Effect) → IsEffect v (roll-Effect x) ≡ effect_step v (IsEffect v) x
  effect_roll x = rec-roll-Effect (List Word → Part → Type 0) (λ X u k layer. effect_step v k layer) natural x

  pub done_roll : (x : Effect-F Effect) → done v (roll-Effect x) ≡ done_step v (map-Effect Effect Done (done v) x)
  done_roll x = fold-roll-Effect Done (done_step v) x

  abbrev pub Claim : Effect → Type 0
  Claim e = (scope : List Word) (p : Part) → IsEffect v e scope p → reading v.objects v.predicates scope p ≡ done v e

  each-done : (es : List ((e : Effect) × Claim e)) (scope : List Word) (ps : Parts) → Each (λ e. IsEffect v e scope) (map (λ e. e.0) es) ps → done_readings v.objects v.predicates scope ps ≡ dones (map (done v) (map (λ e. e.0) es))
  each-done [] scope nothing e = refl
  each-done [] scope (part p ps) e = absurd e
  each-done (f ∷ fs) scope nothing e = absurd e
  each-done (f ∷ fs) scope (part p ps) e = let g = f.1 scope p e.0 in let h = each-done fs scope ps e.1 in cc

  applied : (scope : List Word) (n : ℕ) (ts : List Term) (p : Part) → IsApplied v scope n ts p → reading v.objects v.predicates scope p ≡ adds n ts
  applied scope n ts p e =
      let h : reading v.objects v.predicates scope (headed e.0 e.1) ≡ adds (or_zero (first_place e.0 v.predicates)) (terms_said v.objects v.predicates scope e.1) = cond-true _ _ _ e.3 in
      ap (reading v.objects v.predicates scope) e.2 ∙ h ∙ ap₂ adds (ap or_zero e.4) (terms-said v scope ts e.1 e.5)

  level : (y : Effect-F ((e : Effect) × Claim e)) (scope : List Word) (p : Part)
      → effect_step v (IsEffect v) (map-Effect ((e : Effect) × Claim e) Effect (λ e. e.0) y) scope p
      → reading v.objects v.predicates scope p ≡ done_step v (map-Effect Effect Done (done v) (map-Effect ((e : Effect) × Claim e) Effect (λ e. e.0) y))
  level (Effect-F.Add a) scope p e = applied scope a.predicate a.args p e
  level (Effect-F.Delete a) scope p e = ap (reading v.objects v.predicates scope) e.1 ∙ ap taken_back (applied scope a.predicate a.args e.0 e.2)
  level (Effect-F.And es) scope p (inl e) = ap (reading v.objects v.predicates scope) e.1 ∙ ap both (each-done es scope e.0 e.2)
  level (Effect-F.And []) scope p (inr e) = elim e.1 [ inl g ↦ ap (reading v.objects v.predicates scope) g | inr g ↦ ap (reading v.objects v.predicates scope) g.1 ]
  level (Effect-F.And (f ∷ fs)) scope p (inr e) = absurd e.0
  level (Effect-F.Forall xs f) scope p e =
      ap (reading v.objects v.predicates scope) e.2 ∙ ap₂ for_every (sym (params-said v xs e.0 e.3))
      (ap (λ s. reading v.objects v.predicates (scope ++ s) e.1) (sym (scope-said v xs e.0 e.3)) ∙ f.1 (scope ++ map (variable v) xs) e.1 e.4)
  level (Effect-F.When f g) scope p e =
      ap (reading v.objects v.predicates scope) e.2 ∙ ap₂ when (formula-said v f scope e.0 e.3) (g.1 scope e.1 e.4)

  pub effect-said : (e : Effect) → Claim e
  effect-said = ind-Effect Claim (λ x y is. subst (λ z. Claim (roll-Effect z)) is (claim (map-Effect ((e : Effect) × Claim e) Effect (λ e. e.0) y) (level y)))
    where
      claim : (x : Effect-F Effect) → ((scope : List Word) (p : Part) → effect_step v (IsEffect v) x scope p → reading v.objects v.predicates scope p ≡ done_step v (map-Effect Effect Done (done v) x)) → Claim (roll-Effect x)
      claim x h scope p e = h scope p (subst (λ (z : List Word → Part → Type 0). z scope p) (effect_roll x) e) ∙ sym (done_roll x)
