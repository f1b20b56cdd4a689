-- A condition as it is printed may be true where the source's may be, and an effect as it is printed may add what the source's may add.
use Rattle.std.proofs.Common.{ℕ, ◌≡◌, ◌↔◌, inl, inr, ◌++◌, List, [], ◌∷◌, map, ap, sym, subst, ◌∙◌}
use Rattle.plan_model.specs.declared.terms.GroundAtom.{GroundAtom}
use Rattle.plan_model.specs.declared.terms.Param.{Param}
use Rattle.plan_model.specs.declared.formulas.Formula.{Formula, roll-Formula, out-Formula, out-roll-Formula}
use Rattle.plan_model.specs.declared.formulas.Formula.TheFolds.{fold-roll-Formula, map-Formula, ind-Formula}
use Rattle.plan_model.specs.declared.formulas.Formula.TheOpen.{Formula-F}
use Rattle.plan_model.specs.declared.effects.Effect.{Effect, roll-Effect}
use Rattle.plan_model.specs.declared.effects.Effect.TheFolds.{fold-roll-Effect, map-Effect, ind-Effect}
use Rattle.plan_model.specs.declared.effects.Effect.TheOpen.{Effect-F}
use Rattle.plan_model.specs.plan_meaning.Truth.{State, EachTrue, OneTrue, AreTyped}
use Rattle.slot_encoding.specs.SourceParts.{retyped, source_param, formula_layer, source_formula, effect_layer, source_effect}
use Rattle.slot_encoding.proofs.places.Sums.{value-moved}
use Rattle.slot_encoding.proofs.places.SourceFormulas.{ground-source, typed-source}
use Rattle.reached_parts.specs.MayBeTrue.{may_not, may_step, MayBeTrue, may_add_step, MayAdd}
use Rattle.reached_parts.proofs.MayBe.{may_roll, may_add_roll}

module _ (names source : List (List ℕ)) (InType InType' : ℕ → ℕ → Type 0) (same_type : (o t : ℕ) → InType' o (retyped t) ↔ InType o t) (R : State) where
  abbrev May : Formula → List ℕ → Type 0
  May = MayBeTrue InType R

  abbrev May' : Formula → List ℕ → Type 0
  May' = MayBeTrue InType' R

  abbrev put : Formula → Formula
  put = source_formula names source 0

  abbrev put_layer : Formula-F Formula → Formula-F Formula
  put_layer x = formula_layer names source 0 (map-Formula Formula Formula put x)

  put-roll : (x : Formula-F Formula) → put (roll-Formula x) ≡ roll-Formula (put_layer x)
  put-roll x = fold-roll-Formula Formula (λ layer. roll-Formula (formula_layer names source 0 layer)) x

  typed : (ps : List Param) (os : List ℕ) → AreTyped InType' (map (source_param names source) ps) os ↔ AreTyped InType ps os
  typed = typed-source names source InType InType' same_type

  -- a negation
  not_level : (x : Formula-F Formula) (values : List ℕ) → may_not (put_layer x) values ↔ may_not x values
  not_level (Formula-F.Equal s t) values =
      let e = value-moved names source [] values s in let f = value-moved names source [] values t in (λ n x. n (e ∙ x ∙ sym f), λ n x. n (sym e ∙ x ∙ f))
  not_level (Formula-F.Holds a) values = (λ x. x, λ x. x)
  not_level (Formula-F.Not f) values = (λ x. x, λ x. x)
  not_level (Formula-F.And fs) values = (λ x. x, λ x. x)
  not_level (Formula-F.Or fs) values = (λ x. x, λ x. x)
  not_level (Formula-F.Imply f h) values = (λ x. x, λ x. x)
  not_level (Formula-F.Forall ps f) values = (λ x. x, λ x. x)
  not_level (Formula-F.Exists ps f) values = (λ x. x, λ x. x)

  abbrev NotClaim : Formula → Type 0
  NotClaim f = (values : List ℕ) → may_not (out-Formula (put f)) values ↔ may_not (out-Formula f) values

  not-source : (f : Formula) → NotClaim f
  not-source = ind-Formula NotClaim (λ x y is values.
      let a = ap out-Formula (put-roll x) ∙ out-roll-Formula (put_layer x) in
      subst (λ z. may_not z values ↔ may_not (out-Formula (roll-Formula x)) values) (sym a)
      (subst (λ z. may_not (put_layer x) values ↔ may_not z values) (sym (out-roll-Formula x)) (not_level x values)))

  abbrev Claim : Formula → Type 0
  Claim f = (values : List ℕ) → May' (put f) values ↔ May f values

  each : (fs : List ((f : Formula) × Claim f)) (values : List ℕ) → EachTrue May' (map put (map (λ e. e.0) fs)) values ↔ EachTrue May (map (λ e. e.0) fs) values
  each [] values = (λ x. x, λ x. x)
  each (e ∷ fs) values = let h = each fs values in let g = e.1 values in (λ x. (g.0 x.0, h.0 x.1), λ x. (g.1 x.0, h.1 x.1))

  one : (fs : List ((f : Formula) × Claim f)) (values : List ℕ) → OneTrue May' (map put (map (λ e. e.0) fs)) values ↔ OneTrue May (map (λ e. e.0) fs) values
  one [] values = (λ x. x, λ x. x)
  one (e ∷ fs) values =
      let h = one fs values in let g = e.1 values in
      (λ x. elim x [ inl y ↦ inl (g.0 y) | inr y ↦ inr (h.0 y) ], λ x. elim x [ inl y ↦ inl (g.1 y) | inr y ↦ inr (h.1 y) ])

  abbrev Layer : Formula-F Formula → Type 0
  Layer x = (values : List ℕ) → may_step InType' R (λ f. f) May' (put_layer x) values ↔ may_step InType R (λ f. f) May x values

  -- a level, where the claim holds of the parts
  level : (y : Formula-F ((f : Formula) × Claim f)) → Layer (map-Formula ((f : Formula) × Claim f) Formula (λ e. e.0) y)
  level (Formula-F.Holds a) values = let e = ground-source names source [] values a in (λ x. subst R e x, λ x. subst R (sym e) x)
  level (Formula-F.Equal s t) values =
      let e = value-moved names source [] values s in let f = value-moved names source [] values t in (λ x. sym e ∙ x ∙ f, λ x. e ∙ x ∙ sym f)
  level (Formula-F.Not f) values = not-source f.0 values
  level (Formula-F.And fs) values = each fs values
  level (Formula-F.Or fs) values = one fs values
  level (Formula-F.Imply f h) values = (λ x. x, λ x. x)
  level (Formula-F.Forall ps f) values = (
    λ x os t. (f.1 (values ++ os)).0 (x os ((typed ps os).1 t)),
    λ x os t. (f.1 (values ++ os)).1 (x os ((typed ps os).0 t)),
  )
  level (Formula-F.Exists ps f) values = (
    λ x. (x.0, (typed ps x.0).0 x.1, (f.1 (values ++ x.0)).0 x.2),
    λ x. (x.0, (typed ps x.0).1 x.1, (f.1 (values ++ x.0)).1 x.2),
  )

  pub may-source : (f : Formula) → Claim f
  may-source = ind-Formula Claim (λ x y is. subst (λ z. Claim (roll-Formula z)) is (claim (map-Formula ((f : Formula) × Claim f) Formula (λ e. e.0) y) (level y)))
    where
      claim : (x : Formula-F Formula) → Layer x → Claim (roll-Formula x)
      claim x h values =
          let a : May' (put (roll-Formula x)) ≡ may_step InType' R (λ f. f) May' (put_layer x) = ap May' (put-roll x) ∙ may_roll InType' R (put_layer x) in
          let b : May (roll-Formula x) ≡ may_step InType R (λ f. f) May x = may_roll InType R x in
          subst (λ z. z values ↔ May (roll-Formula x) values) (sym a) (subst (λ z. may_step InType' R (λ f. f) May' (put_layer x) values ↔ z values) (sym b) (h values))

  abbrev put_effect : Effect → Effect
  put_effect = source_effect names source 0

  abbrev effect_put : Effect-F Effect → Effect-F Effect
  effect_put x = effect_layer names source 0 (map-Effect Effect Effect put_effect x)

  abbrev AddClaim : Effect → Type 0
  AddClaim e = (values : List ℕ) (g : GroundAtom) → MayAdd InType' R (put_effect e) values g ↔ MayAdd InType R e values g

  one_adds : (es : List ((e : Effect) × AddClaim e)) (values : List ℕ) (g : GroundAtom)
      → OneTrue (λ e v. MayAdd InType' R e v g) (map put_effect (map (λ e. e.0) es)) values ↔ OneTrue (λ e v. MayAdd InType R e v g) (map (λ e. e.0) es) values
  one_adds [] values g = (λ x. x, λ x. x)
  one_adds (e ∷ es) values g =
      let h = one_adds es values g in let k = e.1 values g in
      (λ x. elim x [ inl y ↦ inl (k.0 y) | inr y ↦ inr (h.0 y) ], λ x. elim x [ inl y ↦ inl (k.1 y) | inr y ↦ inr (h.1 y) ])

  abbrev AddLayer : Effect-F Effect → Type 0
  AddLayer x = (values : List ℕ) (g : GroundAtom) → may_add_step InType' R (MayAdd InType' R) (effect_put x) values g ↔ may_add_step InType R (MayAdd InType R) x values g

  add_level : (y : Effect-F ((e : Effect) × AddClaim e)) → AddLayer (map-Effect ((e : Effect) × AddClaim e) Effect (λ e. e.0) y)
  add_level (Effect-F.Add a) values g = let e = ground-source names source [] values a in (λ x. x ∙ e, λ x. x ∙ sym e)
  add_level (Effect-F.Delete a) values g = (λ x. x, λ x. x)
  add_level (Effect-F.And es) values g = one_adds es values g
  add_level (Effect-F.Forall ps e) values g = (
    λ x. (x.0, (typed ps x.0).0 x.1, (e.1 (values ++ x.0) g).0 x.2),
    λ x. (x.0, (typed ps x.0).1 x.1, (e.1 (values ++ x.0) g).1 x.2),
  )
  add_level (Effect-F.When f e) values g =
      let h = may-source f values in let k = e.1 values g in (λ x. (h.0 x.0, k.0 x.1), λ x. (h.1 x.0, k.1 x.1))

  pub may_add-source : (e : Effect) → AddClaim e
  may_add-source = ind-Effect AddClaim (λ x y is. subst (λ z. AddClaim (roll-Effect z)) is (claim (map-Effect ((e : Effect) × AddClaim e) Effect (λ e. e.0) y) (add_level y)))
    where
      claim : (x : Effect-F Effect) → AddLayer x → AddClaim (roll-Effect x)
      claim x h values g =
          let rolled : put_effect (roll-Effect x) ≡ roll-Effect (effect_put x) = fold-roll-Effect Effect (λ layer. roll-Effect (effect_layer names source 0 layer)) x in
          let a : MayAdd InType' R (put_effect (roll-Effect x)) ≡ may_add_step InType' R (MayAdd InType' R) (effect_put x) = ap (MayAdd InType' R) rolled ∙ may_add_roll InType' R (effect_put x) in
          let b : MayAdd InType R (roll-Effect x) ≡ may_add_step InType R (MayAdd InType R) x = may_add_roll InType R x in
          subst (λ z. z values g ↔ MayAdd InType R (roll-Effect x) values g) (sym a) (subst (λ z. may_add_step InType' R (MayAdd InType' R) (effect_put x) values g ↔ z values g) (sym b) (h values g))
