-- States with the same atoms make the same formulas true, and are changed alike by effects.
use Rattle.std.proofs.Common.{ℕ, ◌↔◌, inl, inr, ◌++◌, List, [], ◌∷◌, map, sym, subst}
use Rattle.plan_model.specs.declared.terms.GroundAtom.{GroundAtom}
use Rattle.plan_model.specs.declared.formulas.Formula.{Formula, roll-Formula}
use Rattle.plan_model.specs.declared.formulas.Formula.TheFolds.{map-Formula, ind-Formula}
use Rattle.plan_model.specs.declared.formulas.Formula.TheOpen.{Formula-F}
use Rattle.plan_model.specs.declared.effects.Effect.{Effect, roll-Effect}
use Rattle.plan_model.specs.declared.effects.Effect.TheFolds.{map-Effect, ind-Effect}
use Rattle.plan_model.specs.declared.effects.Effect.TheOpen.{Effect-F}
use Rattle.plan_model.specs.plan_meaning.Truth.{State, ground, EachTrue, OneTrue, truth_step, IsTrueIn, adds_step, Adds, deletes_step, Deletes, after}
use Rattle.plan_model.proofs.plan_meaning.TruthEquations.{truth_roll}
use Rattle.plan_model.proofs.plan_meaning.EffectEquations.{adds_roll, deletes_roll}

module _ (InType : ℕ → ℕ → Type 0) (S T : State) (same : (g : GroundAtom) → S g ↔ T g) where
  abbrev TruthClaim : Formula → Type 0
  TruthClaim f = (values : List ℕ) → IsTrueIn InType S f values ↔ IsTrueIn InType T f values

  each : (fs : List ((f : Formula) × TruthClaim f)) (values : List ℕ) → EachTrue (IsTrueIn InType S) (map (λ e. e.0) fs) values ↔ EachTrue (IsTrueIn InType T) (map (λ e. e.0) fs) values
  each [] values = (λ x. x, λ x. x)
  each (e ∷ fs) values = let h = each fs values in let g = e.1 values in (λ x. (g.0 x.0, h.0 x.1), λ x. (g.1 x.0, h.1 x.1))

  one : (fs : List ((f : Formula) × TruthClaim f)) (values : List ℕ) → OneTrue (IsTrueIn InType S) (map (λ e. e.0) fs) values ↔ OneTrue (IsTrueIn InType T) (map (λ e. e.0) fs) values
  one [] values = (λ x. x, λ x. x)
  one (e ∷ fs) values =
      let h = one fs values in let g = e.1 values in
      (λ x. elim x [ inl y ↦ inl (g.0 y) | inr y ↦ inr (h.0 y) ], λ x. elim x [ inl y ↦ inl (g.1 y) | inr y ↦ inr (h.1 y) ])

  abbrev TruthLayer : Formula-F Formula → Type 0
  TruthLayer x = (values : List ℕ) → truth_step InType S (IsTrueIn InType S) x values ↔ truth_step InType T (IsTrueIn InType T) x values

  level : (y : Formula-F ((f : Formula) × TruthClaim f)) → TruthLayer (map-Formula ((f : Formula) × TruthClaim f) Formula (λ e. e.0) y)
  level (Formula-F.Holds a) values = same (ground values a)
  level (Formula-F.Equal s t) values = (λ x. x, λ x. x)
  level (Formula-F.Not f) values = let g = f.1 values in (λ x y. x (g.1 y), λ x y. x (g.0 y))
  level (Formula-F.And fs) values = each fs values
  level (Formula-F.Or fs) values = one fs values
  level (Formula-F.Imply f h) values = let g = f.1 values in let k = h.1 values in (λ x y. k.0 (x (g.1 y)), λ x y. k.1 (x (g.0 y)))
  level (Formula-F.Forall xs f) values = (λ x os t. (f.1 (values ++ os)).0 (x os t), λ x os t. (f.1 (values ++ os)).1 (x os t))
  level (Formula-F.Exists xs f) values = (λ x. (x.0, x.1, (f.1 (values ++ x.0)).0 x.2), λ x. (x.0, x.1, (f.1 (values ++ x.0)).1 x.2))

  pub same_truth : (f : Formula) (values : List ℕ) → IsTrueIn InType S f values ↔ IsTrueIn InType T f values
  same_truth = ind-Formula TruthClaim (λ x y is. subst (λ z. TruthClaim (roll-Formula z)) is (claim (map-Formula ((f : Formula) × TruthClaim f) Formula (λ e. e.0) y) (level y)))
    where
      claim : (x : Formula-F Formula) → TruthLayer x → TruthClaim (roll-Formula x)
      claim x h values =
          subst (λ (z : List ℕ → Type 0). z values ↔ IsTrueIn InType T (roll-Formula x) values) (sym (truth_roll InType S x))
          (subst (λ (z : List ℕ → Type 0). truth_step InType S (IsTrueIn InType S) x values ↔ z values) (sym (truth_roll InType T x)) (h values))

  abbrev AddsClaim : Effect → Type 0
  AddsClaim e = (values : List ℕ) (g : GroundAtom) → Adds InType S e values g ↔ Adds InType T e values g

  abbrev DeletesClaim : Effect → Type 0
  DeletesClaim e = (values : List ℕ) (g : GroundAtom) → Deletes InType S e values g ↔ Deletes InType T e values g

  one_adds : (es : List ((e : Effect) × AddsClaim e)) (values : List ℕ) (g : GroundAtom) → OneTrue (λ e w. Adds InType S e w g) (map (λ e. e.0) es) values ↔ OneTrue (λ e w. Adds InType T e w g) (map (λ e. e.0) es) values
  one_adds [] values g = (λ x. x, λ x. x)
  one_adds (e ∷ es) values g =
      let h = one_adds es values g in let k = e.1 values g in
      (λ x. elim x [ inl y ↦ inl (k.0 y) | inr y ↦ inr (h.0 y) ], λ x. elim x [ inl y ↦ inl (k.1 y) | inr y ↦ inr (h.1 y) ])

  one_deletes : (es : List ((e : Effect) × DeletesClaim e)) (values : List ℕ) (g : GroundAtom)
      → OneTrue (λ e w. Deletes InType S e w g) (map (λ e. e.0) es) values ↔ OneTrue (λ e w. Deletes InType T e w g) (map (λ e. e.0) es) values
  one_deletes [] values g = (λ x. x, λ x. x)
  one_deletes (e ∷ es) values g =
      let h = one_deletes es values g in let k = e.1 values g in
      (λ x. elim x [ inl y ↦ inl (k.0 y) | inr y ↦ inr (h.0 y) ], λ x. elim x [ inl y ↦ inl (k.1 y) | inr y ↦ inr (h.1 y) ])

  abbrev AddsLayer : Effect-F Effect → Type 0
  AddsLayer x = (values : List ℕ) (g : GroundAtom) → adds_step InType S (Adds InType S) x values g ↔ adds_step InType T (Adds InType T) x values g

  abbrev DeletesLayer : Effect-F Effect → Type 0
  DeletesLayer x = (values : List ℕ) (g : GroundAtom) → deletes_step InType S (Deletes InType S) x values g ↔ deletes_step InType T (Deletes InType T) x values g

  adds_level : (y : Effect-F ((e : Effect) × AddsClaim e)) → AddsLayer (map-Effect ((e : Effect) × AddsClaim e) Effect (λ e. e.0) y)
  adds_level (Effect-F.Add a) values g = (λ x. x, λ x. x)
  adds_level (Effect-F.Delete a) values g = (λ x. x, λ x. x)
  adds_level (Effect-F.And es) values g = one_adds es values g
  adds_level (Effect-F.Forall xs e) values g = (λ x. (x.0, x.1, (e.1 (values ++ x.0) g).0 x.2), λ x. (x.0, x.1, (e.1 (values ++ x.0) g).1 x.2))
  adds_level (Effect-F.When f e) values g = let h = same_truth f values in let k = e.1 values g in (λ x. (h.0 x.0, k.0 x.1), λ x. (h.1 x.0, k.1 x.1))

  deletes_level : (y : Effect-F ((e : Effect) × DeletesClaim e)) → DeletesLayer (map-Effect ((e : Effect) × DeletesClaim e) Effect (λ e. e.0) y)
  deletes_level (Effect-F.Add a) values g = (λ x. x, λ x. x)
  deletes_level (Effect-F.Delete a) values g = (λ x. x, λ x. x)
  deletes_level (Effect-F.And es) values g = one_deletes es values g
  deletes_level (Effect-F.Forall xs e) values g = (λ x. (x.0, x.1, (e.1 (values ++ x.0) g).0 x.2), λ x. (x.0, x.1, (e.1 (values ++ x.0) g).1 x.2))
  deletes_level (Effect-F.When f e) values g = let h = same_truth f values in let k = e.1 values g in (λ x. (h.0 x.0, k.0 x.1), λ x. (h.1 x.0, k.1 x.1))

  same_adds : (e : Effect) → AddsClaim e
  same_adds = ind-Effect AddsClaim (λ x y is. subst (λ z. AddsClaim (roll-Effect z)) is (claim (map-Effect ((e : Effect) × AddsClaim e) Effect (λ e. e.0) y) (adds_level y)))
    where
      claim : (x : Effect-F Effect) → AddsLayer x → AddsClaim (roll-Effect x)
      claim x h values g =
          subst (λ (z : List ℕ → GroundAtom → Type 0). z values g ↔ Adds InType T (roll-Effect x) values g) (sym (adds_roll InType S x))
          (subst (λ (z : List ℕ → GroundAtom → Type 0). adds_step InType S (Adds InType S) x values g ↔ z values g) (sym (adds_roll InType T x)) (h values g))

  same_deletes : (e : Effect) → DeletesClaim e
  same_deletes = ind-Effect DeletesClaim (λ x y is. subst (λ z. DeletesClaim (roll-Effect z)) is (claim (map-Effect ((e : Effect) × DeletesClaim e) Effect (λ e. e.0) y) (deletes_level y)))
    where
      claim : (x : Effect-F Effect) → DeletesLayer x → DeletesClaim (roll-Effect x)
      claim x h values g =
          subst (λ (z : List ℕ → GroundAtom → Type 0). z values g ↔ Deletes InType T (roll-Effect x) values g) (sym (deletes_roll InType S x))
          (subst (λ (z : List ℕ → GroundAtom → Type 0). deletes_step InType S (Deletes InType S) x values g ↔ z values g) (sym (deletes_roll InType T x)) (h values g))

  pub same_after : (e : Effect) (values : List ℕ) (g : GroundAtom) → after InType S e values g ↔ after InType T e values g
  same_after e values g =
      let a = same_adds e values g in let b = same_deletes e values g in let s = same g in
      (λ x. elim x [ inl y ↦ inl (s.0 y.0, λ z. y.1 (b.1 z)) | inr y ↦ inr (a.0 y) ], λ x. elim x [ inl y ↦ inl (s.1 y.0, λ z. y.1 (b.0 z)) | inr y ↦ inr (a.1 y) ])
