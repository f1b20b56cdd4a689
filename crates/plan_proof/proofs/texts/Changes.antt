-- What an effect adds and deletes goes by the words.
use Rattle.std.proofs.Common.{ℕ, ◌≡◌, ◌↔◌, ◌⊎◌, inl, inr, ◌++◌, List, [], ◌∷◌, map, sym, subst}
use Rattle.text_forms.specs.Words.{Word}
use Rattle.plan_texts.specs.Declared.{Declared, kind_at}
use Rattle.plan_texts.specs.Said.{Done, adds, deletes, both, for_every, when, Dones, no_more, and_more, dones, done_step, done}
use Rattle.plan_model.specs.plan_meaning.Truth.{State, value_of, OneTrue, adds_step, Adds, deletes_step, Deletes}
use Rattle.plan_model.proofs.plan_meaning.EffectEquations.{adds_roll, deletes_roll}
use Rattle.plan_model.specs.declared.terms.GroundAtom.{GroundAtom}
use Rattle.plan_model.specs.declared.effects.Effect.{Effect, roll-Effect}
use Rattle.plan_model.specs.declared.effects.Effect.TheFolds.{map-Effect, ind-Effect}
use Rattle.plan_model.specs.declared.effects.Effect.TheOpen.{Effect-F}
use Rattle.plan_proof.proofs.texts.Truths.{AreTypedSaid, TrueSaid, typed-said, truth-said}
use Rattle.plan_texts.proofs.Effects.{done_roll}

module _ (InWord : ℕ → List Word → Type 0) (S : State) where
  abbrev mutual
    pub AddsSaid : Done → List ℕ → GroundAtom → Type 0
    AddsSaid (adds n ts) values g = g ≡ record { predicate = n; args = map (value_of values) ts }
    AddsSaid (deletes n ts) values g = ⊥
    AddsSaid (both ds) values g = OneAdds ds values g
    AddsSaid (for_every xs d) values g = (os : List ℕ) × AreTypedSaid InWord S xs os × AddsSaid d (values ++ os) g
    AddsSaid (when s d) values g = TrueSaid InWord S s values × AddsSaid d values g

    pub OneAdds : Dones → List ℕ → GroundAtom → Type 0
    OneAdds no_more values g = ⊥
    OneAdds (and_more d ds) values g = AddsSaid d values g ⊎ OneAdds ds values g

  abbrev mutual
    pub DeletesSaid : Done → List ℕ → GroundAtom → Type 0
    DeletesSaid (adds n ts) values g = ⊥
    DeletesSaid (deletes n ts) values g = g ≡ record { predicate = n; args = map (value_of values) ts }
    DeletesSaid (both ds) values g = OneDeletes ds values g
    DeletesSaid (for_every xs d) values g = (os : List ℕ) × AreTypedSaid InWord S xs os × DeletesSaid d (values ++ os) g
    DeletesSaid (when s d) values g = TrueSaid InWord S s values × DeletesSaid d values g

    pub OneDeletes : Dones → List ℕ → GroundAtom → Type 0
    OneDeletes no_more values g = ⊥
    OneDeletes (and_more d ds) values g = DeletesSaid d values g ⊎ OneDeletes ds values g

module _ (v : Declared) (InType : ℕ → ℕ → Type 0) (InWord : ℕ → List Word → Type 0) (same_type : (o t : ℕ) → InType o t ↔ InWord o (kind_at v t)) (S S' : State) (same_state : (g : _) → S g ↔ S' g) where
  abbrev pub AddsClaim : Effect → Type 0
  AddsClaim e = (values : List ℕ) (g : GroundAtom) → Adds InType S e values g ↔ AddsSaid InWord S' (done v e) values g

  abbrev pub DeletesClaim : Effect → Type 0
  DeletesClaim e = (values : List ℕ) (g : GroundAtom) → Deletes InType S e values g ↔ DeletesSaid InWord S' (done v e) values g

  one-adds : (es : List ((e : Effect) × AddsClaim e)) (values : List ℕ) (g : GroundAtom) → OneTrue (λ e w. Adds InType S e w g) (map (λ e. e.0) es) values ↔ OneAdds InWord S' (dones (map (done v) (map (λ e. e.0) es))) values g
  one-adds [] values g = (λ x. x, λ x. x)
  one-adds (e ∷ es) values g =
      let h = one-adds es values g in let k = e.1 values g in
      (λ x. elim x [ inl y ↦ inl (k.0 y) | inr y ↦ inr (h.0 y) ], λ x. elim x [ inl y ↦ inl (k.1 y) | inr y ↦ inr (h.1 y) ])

  one-deletes : (es : List ((e : Effect) × DeletesClaim e)) (values : List ℕ) (g : GroundAtom) → OneTrue (λ e w. Deletes InType S e w g) (map (λ e. e.0) es) values ↔ OneDeletes InWord S' (dones (map (done v) (map (λ e. e.0) es))) values g
  one-deletes [] values g = (λ x. x, λ x. x)
  one-deletes (e ∷ es) values g =
      let h = one-deletes es values g in let k = e.1 values g in
      (λ x. elim x [ inl y ↦ inl (k.0 y) | inr y ↦ inr (h.0 y) ], λ x. elim x [ inl y ↦ inl (k.1 y) | inr y ↦ inr (h.1 y) ])

  abbrev pub AddsLayer : Effect-F Effect → Type 0
  AddsLayer x = (values : List ℕ) (g : GroundAtom) → adds_step InType S (Adds InType S) x values g ↔ AddsSaid InWord S' (done_step v (map-Effect Effect Done (done v) x)) values g

  abbrev pub DeletesLayer : Effect-F Effect → Type 0
  DeletesLayer x = (values : List ℕ) (g : GroundAtom) → deletes_step InType S (Deletes InType S) x values g ↔ DeletesSaid InWord S' (done_step v (map-Effect Effect Done (done v) x)) values g

  adds-level : (y : Effect-F ((e : Effect) × AddsClaim e)) → AddsLayer (map-Effect ((e : Effect) × AddsClaim e) Effect (λ e. e.0) y)
  adds-level (Effect-F.Add a) values g = (λ x. x, λ x. x)
  adds-level (Effect-F.Delete a) values g = (λ x. x, λ x. x)
  adds-level (Effect-F.And es) values g = one-adds es values g
  adds-level (Effect-F.Forall xs e) values g = (
    λ x. (x.0, (typed-said v InType InWord same_type S S' same_state xs x.0).0 x.1, (e.1 (values ++ x.0) g).0 x.2),
    λ x. (x.0, (typed-said v InType InWord same_type S S' same_state xs x.0).1 x.1, (e.1 (values ++ x.0) g).1 x.2),
  )
  adds-level (Effect-F.When f e) values g =
      let h = truth-said v InType InWord same_type S S' same_state f values in let k = e.1 values g in (λ x. (h.0 x.0, k.0 x.1), λ x. (h.1 x.0, k.1 x.1))

  deletes-level : (y : Effect-F ((e : Effect) × DeletesClaim e)) → DeletesLayer (map-Effect ((e : Effect) × DeletesClaim e) Effect (λ e. e.0) y)
  deletes-level (Effect-F.Add a) values g = (λ x. x, λ x. x)
  deletes-level (Effect-F.Delete a) values g = (λ x. x, λ x. x)
  deletes-level (Effect-F.And es) values g = one-deletes es values g
  deletes-level (Effect-F.Forall xs e) values g = (
    λ x. (x.0, (typed-said v InType InWord same_type S S' same_state xs x.0).0 x.1, (e.1 (values ++ x.0) g).0 x.2),
    λ x. (x.0, (typed-said v InType InWord same_type S S' same_state xs x.0).1 x.1, (e.1 (values ++ x.0) g).1 x.2),
  )
  deletes-level (Effect-F.When f e) values g =
      let h = truth-said v InType InWord same_type S S' same_state f values in let k = e.1 values g in (λ x. (h.0 x.0, k.0 x.1), λ x. (h.1 x.0, k.1 x.1))

  pub adds-said : (e : Effect) → AddsClaim e
  adds-said = ind-Effect AddsClaim (λ x y is. subst (λ z. AddsClaim (roll-Effect z)) is (claim (map-Effect ((e : Effect) × AddsClaim e) Effect (λ e. e.0) y) (adds-level y)))
    where
      claim : (x : Effect-F Effect) → AddsLayer x → AddsClaim (roll-Effect x)
      claim x h values g =
          subst (λ z. Adds InType S (roll-Effect x) values g ↔ AddsSaid InWord S' z values g) (sym (done_roll v x)) (subst (λ (z : List ℕ → GroundAtom → Type 0). z values g ↔ AddsSaid InWord S' (done_step v (map-Effect Effect Done (done v) x)) values g) (sym (adds_roll InType S x)) (h values g))

  pub deletes-said : (e : Effect) → DeletesClaim e
  deletes-said = ind-Effect DeletesClaim (λ x y is. subst (λ z. DeletesClaim (roll-Effect z)) is (claim (map-Effect ((e : Effect) × DeletesClaim e) Effect (λ e. e.0) y) (deletes-level y)))
    where
      claim : (x : Effect-F Effect) → DeletesLayer x → DeletesClaim (roll-Effect x)
      claim x h values g =
          subst (λ z. Deletes InType S (roll-Effect x) values g ↔ DeletesSaid InWord S' z values g) (sym (done_roll v x)) (subst (λ (z : List ℕ → GroundAtom → Type 0). z values g ↔ DeletesSaid InWord S' (done_step v (map-Effect Effect Done (done v) x)) values g) (sym (deletes_roll InType S x)) (h values g))
