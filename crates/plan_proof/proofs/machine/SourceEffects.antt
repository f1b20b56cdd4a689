-- A source effect behind slots, in the printed problem, adds and deletes what it does in the source: atoms of source predicates alone.
use Rattle.std.proofs.Common.{ℕ, ◌≡◌, ◌↔◌, ◌<◌, inl, inr, ◌++◌, List, [], ◌∷◌, map, length, ap, sym, subst, ◌∙◌, append_assoc}
use Rattle.text_forms.specs.Words.{Word}
use Rattle.plan_texts.specs.Declared.{Declared, variable}
use Rattle.plan_texts.specs.Types.{EachIs}
use Rattle.plan_texts.specs.Printable.{IsSound, sound_effect_step, IsSoundEffect}
use Rattle.plan_texts.proofs.SpelledEffects.{sound_roll}
use Rattle.plan_model.specs.declared.terms.Atom.{Atom}
use Rattle.plan_model.specs.declared.terms.GroundAtom.{GroundAtom}
use Rattle.plan_model.specs.declared.terms.Param.{Param}
use Rattle.plan_model.specs.declared.formulas.Formula.{Formula}
use Rattle.plan_model.specs.declared.effects.Effect.{Effect, roll-Effect}
use Rattle.plan_model.specs.declared.effects.Effect.TheFolds.{fold-roll-Effect, map-Effect, ind-Effect}
use Rattle.plan_model.specs.declared.effects.Effect.TheOpen.{Effect-F}
use Rattle.plan_model.specs.plan_meaning.Truth.{State, ground, OneTrue, AreTyped, IsTrueIn, adds_step, Adds, deletes_step, Deletes}
use Rattle.slot_encoding.specs.SourceParts.{retyped, source_param, source_atom, source_formula, effect_layer, source_effect}
use Rattle.plan_model.proofs.plan_meaning.EffectEquations.{adds_roll, deletes_roll}
use Rattle.slot_encoding.proofs.places.SourceFormulas.{ground-source, typed-source, truth-source}

module _ (names source : List (List ℕ)) (InType InType' : ℕ → ℕ → Type 0) (same_type : (o t : ℕ) → InType' o (retyped t) ↔ InType o t)
    (v : Declared) (arities : List ℕ) (S S' : State) (agreed : (g : GroundAtom) → g.predicate < length v.predicates → S' g ↔ S g) (front : List ℕ) where
  abbrev put : Effect → Effect
  put = source_effect names source (length front)

  abbrev Sound : Effect → List Word → Type 0
  Sound = IsSoundEffect v arities

  -- what an effect does to the atom g, in the printed problem and in the source
  pub record Means (did' did : Effect → List ℕ → GroundAtom → Type 0) (e : Effect) : Type 0 where
    pub same : (scope : List Word) (values : List ℕ) (g : GroundAtom) → IsSoundEffect v arities e scope → did' (source_effect names source (length front) e) (front ++ values) g ↔ did e values g
    pub below : (scope : List Word) (values : List ℕ) (g : GroundAtom) → IsSoundEffect v arities e scope → did e values g → g.predicate < length v.predicates

  module _ (did' did : Effect → List ℕ → GroundAtom → Type 0) where
    abbrev Claim : Effect → Type 0
    Claim = Means did' did

    one : (es : List ((e : Effect) × Claim e)) (scope : List Word) (values : List ℕ) (g : GroundAtom) → EachIs (λ e. Sound e scope) (map (λ e. e.0) es)
        → OneTrue (λ e v. did' e v g) (map put (map (λ e. e.0) es)) (front ++ values) ↔ OneTrue (λ e v. did e v g) (map (λ e. e.0) es) values
    one [] scope values g s = (λ x. x, λ x. x)
    one (e ∷ es) scope values g s =
        let h = one es scope values g s.1 in let k = e.1.same scope values g s.0 in
        (λ x. elim x [ inl y ↦ inl (k.0 y) | inr y ↦ inr (h.0 y) ], λ x. elim x [ inl y ↦ inl (k.1 y) | inr y ↦ inr (h.1 y) ])

    one_source : (es : List ((e : Effect) × Claim e)) (scope : List Word) (values : List ℕ) (g : GroundAtom) → EachIs (λ e. Sound e scope) (map (λ e. e.0) es)
        → OneTrue (λ e v. did e v g) (map (λ e. e.0) es) values → g.predicate < length v.predicates
    one_source [] scope values g s x = absurd x
    one_source (e ∷ es) scope values g s (inl x) = e.1.below scope values g s.0 x
    one_source (e ∷ es) scope values g s (inr x) = one_source es scope values g s.1 x

    -- for each typed list of further values
    some_values : (ps : List Param) (e : (e : Effect) × Claim e) (scope : List Word) (values : List ℕ) (g : GroundAtom) → Sound e.0 (scope ++ map (variable v) ps)
        → ((os : List ℕ) × AreTyped InType' (map (source_param names source) ps) os × did' (put e.0) ((front ++ values) ++ os) g) ↔ ((os : List ℕ) × AreTyped InType ps os × did e.0 (values ++ os) g)
    some_values ps e scope values g s =
        let within = scope ++ map (variable v) ps in (
          λ x. (x.0, (typed ps x.0).0 x.1, (e.1.same within (values ++ x.0) g s).0 (subst (λ z. did' (put e.0) z g) (append_assoc front values x.0) x.2)),
          λ x. (x.0, (typed ps x.0).1 x.1, subst (λ z. did' (put e.0) z g) (sym (append_assoc front values x.0)) ((e.1.same within (values ++ x.0) g s).1 x.2)),
        )
      where
        typed : (ps : List Param) (os : List ℕ) → AreTyped InType' (map (source_param names source) ps) os ↔ AreTyped InType ps os
        typed = typed-source names source InType InType' same_type

    same_ground : (values : List ℕ) (a : Atom) (g : GroundAtom) → (g ≡ ground (front ++ values) (source_atom names source (length front) a)) ↔ (g ≡ ground values a)
    same_ground values a g = let e = ground-source names source front values a in (λ x. x ∙ e, λ x. x ∙ sym e)

    same_condition : (f : Formula) (scope : List Word) (values : List ℕ) → IsSound v arities f scope → IsTrueIn InType' S' (source_formula names source (length front) f) (front ++ values) ↔ IsTrueIn InType S f values
    same_condition = truth-source names source InType InType' same_type v arities S S' agreed front

  abbrev AddsLayer : Effect-F Effect → Type 0
  AddsLayer x = (scope : List Word) (values : List ℕ) (g : GroundAtom) → sound_effect_step v arities Sound x scope
      → (adds_step InType' S' (Adds InType' S') (effect_layer names source (length front) (map-Effect Effect Effect put x)) (front ++ values) g ↔ adds_step InType S (Adds InType S) x values g)
      × (adds_step InType S (Adds InType S) x values g → g.predicate < length v.predicates)

  abbrev DeletesLayer : Effect-F Effect → Type 0
  DeletesLayer x = (scope : List Word) (values : List ℕ) (g : GroundAtom) → sound_effect_step v arities Sound x scope
      → (deletes_step InType' S' (Deletes InType' S') (effect_layer names source (length front) (map-Effect Effect Effect put x)) (front ++ values) g ↔ deletes_step InType S (Deletes InType S) x values g)
      × (deletes_step InType S (Deletes InType S) x values g → g.predicate < length v.predicates)

  abbrev pub MeansAdds : Effect → Type 0
  MeansAdds = Means (Adds InType' S') (Adds InType S)

  abbrev pub MeansDeletes : Effect → Type 0
  MeansDeletes = Means (Deletes InType' S') (Deletes InType S)

  adds_level : (y : Effect-F ((e : Effect) × MeansAdds e)) → AddsLayer (map-Effect ((e : Effect) × MeansAdds e) Effect (λ e. e.0) y)
  adds_level (Effect-F.Add a) scope values g s = (same_ground (Adds InType' S') (Adds InType S) values a g, λ e. subst (λ z. z < length v.predicates) (sym (ap (λ (h : GroundAtom). h.predicate) e)) s.0)
  adds_level (Effect-F.Delete a) scope values g s = ((λ x. x, λ x. x), λ x. absurd x)
  adds_level (Effect-F.And es) scope values g s = (one (Adds InType' S') (Adds InType S) es scope values g s, one_source (Adds InType' S') (Adds InType S) es scope values g s)
  adds_level (Effect-F.Forall ps e) scope values g s = (some_values (Adds InType' S') (Adds InType S) ps e scope values g s.1, λ x. e.1.below (scope ++ map (variable v) ps) (values ++ x.0) g s.1 x.2)
  adds_level (Effect-F.When f e) scope values g s =
      let h = same_condition (Adds InType' S') (Adds InType S) f scope values s.0 in let k = e.1.same scope values g s.1 in
      ((λ x. (h.0 x.0, k.0 x.1), λ x. (h.1 x.0, k.1 x.1)), λ x. e.1.below scope values g s.1 x.1)

  deletes_level : (y : Effect-F ((e : Effect) × MeansDeletes e)) → DeletesLayer (map-Effect ((e : Effect) × MeansDeletes e) Effect (λ e. e.0) y)
  deletes_level (Effect-F.Add a) scope values g s = ((λ x. x, λ x. x), λ x. absurd x)
  deletes_level (Effect-F.Delete a) scope values g s = (same_ground (Deletes InType' S') (Deletes InType S) values a g, λ e. subst (λ z. z < length v.predicates) (sym (ap (λ (h : GroundAtom). h.predicate) e)) s.0)
  deletes_level (Effect-F.And es) scope values g s = (one (Deletes InType' S') (Deletes InType S) es scope values g s, one_source (Deletes InType' S') (Deletes InType S) es scope values g s)
  deletes_level (Effect-F.Forall ps e) scope values g s = (some_values (Deletes InType' S') (Deletes InType S) ps e scope values g s.1, λ x. e.1.below (scope ++ map (variable v) ps) (values ++ x.0) g s.1 x.2)
  deletes_level (Effect-F.When f e) scope values g s =
      let h = same_condition (Deletes InType' S') (Deletes InType S) f scope values s.0 in let k = e.1.same scope values g s.1 in
      ((λ x. (h.0 x.0, k.0 x.1), λ x. (h.1 x.0, k.1 x.1)), λ x. e.1.below scope values g s.1 x.1)

  put-roll : (x : Effect-F Effect) → put (roll-Effect x) ≡ roll-Effect (effect_layer names source (length front) (map-Effect Effect Effect put x))
  put-roll x = fold-roll-Effect Effect (λ layer. roll-Effect (effect_layer names source (length front) layer)) x

  pub adds-source : (e : Effect) → MeansAdds e
  adds-source = ind-Effect MeansAdds (λ x y is. subst (λ z. MeansAdds (roll-Effect z)) is (claim (map-Effect ((e : Effect) × MeansAdds e) Effect (λ e. e.0) y) (adds_level y)))
    where
      claim : (x : Effect-F Effect) → AddsLayer x → MeansAdds (roll-Effect x)
      claim x h =
          let put_x = effect_layer names source (length front) (map-Effect Effect Effect put x) in
          let a : Adds InType' S' (put (roll-Effect x)) ≡ adds_step InType' S' (Adds InType' S') put_x = ap (Adds InType' S') (put-roll x) ∙ adds_roll InType' S' put_x in
          let b : Adds InType S (roll-Effect x) ≡ adds_step InType S (Adds InType S) x = adds_roll InType S x in
          record {
            same = λ scope values g s. subst (λ z. z (front ++ values) g ↔ Adds InType S (roll-Effect x) values g) (sym a) (subst (λ z. adds_step InType' S' (Adds InType' S') put_x (front ++ values) g ↔ z values g) (sym b) (h scope values g (subst (λ (z : List Word → Type 0). z scope) (sound_roll v arities x) s)).0);
            below = λ scope values g s d. (h scope values g (subst (λ (z : List Word → Type 0). z scope) (sound_roll v arities x) s)).1 (subst (λ z. z values g) b d);
          }

  pub deletes-source : (e : Effect) → MeansDeletes e
  deletes-source = ind-Effect MeansDeletes (λ x y is. subst (λ z. MeansDeletes (roll-Effect z)) is (claim (map-Effect ((e : Effect) × MeansDeletes e) Effect (λ e. e.0) y) (deletes_level y)))
    where
      claim : (x : Effect-F Effect) → DeletesLayer x → MeansDeletes (roll-Effect x)
      claim x h =
          let put_x = effect_layer names source (length front) (map-Effect Effect Effect put x) in
          let a : Deletes InType' S' (put (roll-Effect x)) ≡ deletes_step InType' S' (Deletes InType' S') put_x = ap (Deletes InType' S') (put-roll x) ∙ deletes_roll InType' S' put_x in
          let b : Deletes InType S (roll-Effect x) ≡ deletes_step InType S (Deletes InType S) x = deletes_roll InType S x in
          record {
            same = λ scope values g s. subst (λ z. z (front ++ values) g ↔ Deletes InType S (roll-Effect x) values g) (sym a) (subst (λ z. deletes_step InType' S' (Deletes InType' S') put_x (front ++ values) g ↔ z values g) (sym b) (h scope values g (subst (λ (z : List Word → Type 0). z scope) (sound_roll v arities x) s)).0);
            below = λ scope values g s d. (h scope values g (subst (λ (z : List Word → Type 0). z scope) (sound_roll v arities x) s)).1 (subst (λ z. z values g) b d);
          }
