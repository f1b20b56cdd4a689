-- What an effect adds and deletes goes down the effect.
use Rattle.std.proofs.Common.{ℕ, ◌≡◌, ◌⊎◌, ◌++◌, List, [], ◌∷◌, map, refl, ap, sym, ◌∙◌}
use Rattle.plan_model.specs.declared.terms.Atom.{Atom}
use Rattle.plan_model.specs.declared.terms.GroundAtom.{GroundAtom}
use Rattle.plan_model.specs.declared.terms.Param.{Param}
use Rattle.plan_model.specs.declared.formulas.Formula.{Formula}
use Rattle.plan_model.specs.declared.effects.Effect.{Effect, roll-Effect}
use Rattle.plan_model.specs.declared.effects.Effect.TheFolds.{rec-roll-Effect, map-Effect}
use Rattle.plan_model.specs.declared.effects.Effect.TheOpen.{Effect-F}
use Rattle.plan_model.specs.declared.effects.Effect.TheVariants.{Add, Delete, And, Forall, When, rolls-Add, rolls-Delete, rolls-And, rolls-Forall, rolls-When}
use Rattle.plan_model.specs.plan_meaning.Truth.{State, ground, OneTrue, AreTyped, IsTrueIn, adds_step, Adds, deletes_step, Deletes}

module _ (InType : ℕ → ℕ → Type 0) (S : State) where
  one-map : (X Y : Type 0) (v : X → Y) (k : Y → List ℕ → GroundAtom → Type 0) (xs : List X) (values : List ℕ) (g : GroundAtom) → OneTrue (λ x w. k (v x) w g) xs values ≡ OneTrue (λ y w. k y w g) (map v xs) values
  one-map X Y v k [] values g = refl
  one-map X Y v k (x ∷ xs) values g = ap (λ t. k (v x) values g ⊎ t) (one-map X Y v k xs values g)

  adds_natural : (X : Type 0) (v : X → Effect) (k : Effect → List ℕ → GroundAtom → Type 0) (x : Effect-F X) → adds_step InType S (λ p. k (v p)) x ≡ adds_step InType S k (map-Effect X Effect v x)
  adds_natural X v k (Effect-F.Add a) = refl
  adds_natural X v k (Effect-F.Delete a) = refl
  adds_natural X v k (Effect-F.And es) = λ i values g. one-map X Effect v k es values g i
  adds_natural X v k (Effect-F.Forall ps e) = refl
  adds_natural X v k (Effect-F.When f e) = refl

  deletes_natural : (X : Type 0) (v : X → Effect) (k : Effect → List ℕ → GroundAtom → Type 0) (x : Effect-F X) → deletes_step InType S (λ p. k (v p)) x ≡ deletes_step InType S k (map-Effect X Effect v x)
  deletes_natural X v k (Effect-F.Add a) = refl
  deletes_natural X v k (Effect-F.Delete a) = refl
  deletes_natural X v k (Effect-F.And es) = λ i values g. one-map X Effect v k es values g i
  deletes_natural X v k (Effect-F.Forall ps e) = refl
  deletes_natural X v k (Effect-F.When f e) = refl

  pub adds_roll : (x : Effect-F Effect) → Adds InType S (roll-Effect x) ≡ adds_step InType S (Adds InType S) x
  adds_roll x = rec-roll-Effect (List ℕ → GroundAtom → Type 0) (λ X v k layer. adds_step InType S k layer) adds_natural x

  pub deletes_roll : (x : Effect-F Effect) → Deletes InType S (roll-Effect x) ≡ deletes_step InType S (Deletes InType S) x
  deletes_roll x = rec-roll-Effect (List ℕ → GroundAtom → Type 0) (λ X v k layer. deletes_step InType S k layer) deletes_natural x

  pub adds-Add : (a : Atom) → Adds InType S (Add a) ≡ (λ values g. g ≡ ground values a)
  adds-Add a = ap (Adds InType S) (sym (rolls-Add a)) ∙ adds_roll (Effect-F.Add a)

  pub adds-Delete : (a : Atom) → Adds InType S (Delete a) ≡ (λ values g. ⊥)
  adds-Delete a = ap (Adds InType S) (sym (rolls-Delete a)) ∙ adds_roll (Effect-F.Delete a)

  pub adds-And : (es : List Effect) → Adds InType S (And es) ≡ (λ values g. OneTrue (λ e v. Adds InType S e v g) es values)
  adds-And es = ap (Adds InType S) (sym (rolls-And es)) ∙ adds_roll (Effect-F.And es)

  pub adds-Forall : (ps : List Param) (e : Effect) → Adds InType S (Forall ps e) ≡ (λ values g. (os : List ℕ) × AreTyped InType ps os × Adds InType S e (values ++ os) g)
  adds-Forall ps e = ap (Adds InType S) (sym (rolls-Forall ps e)) ∙ adds_roll (Effect-F.Forall ps e)

  pub adds-When : (f : Formula) (e : Effect) → Adds InType S (When f e) ≡ (λ values g. IsTrueIn InType S f values × Adds InType S e values g)
  adds-When f e = ap (Adds InType S) (sym (rolls-When f e)) ∙ adds_roll (Effect-F.When f e)

  pub deletes-Add : (a : Atom) → Deletes InType S (Add a) ≡ (λ values g. ⊥)
  deletes-Add a = ap (Deletes InType S) (sym (rolls-Add a)) ∙ deletes_roll (Effect-F.Add a)

  pub deletes-Delete : (a : Atom) → Deletes InType S (Delete a) ≡ (λ values g. g ≡ ground values a)
  deletes-Delete a = ap (Deletes InType S) (sym (rolls-Delete a)) ∙ deletes_roll (Effect-F.Delete a)

  pub deletes-And : (es : List Effect) → Deletes InType S (And es) ≡ (λ values g. OneTrue (λ e v. Deletes InType S e v g) es values)
  deletes-And es = ap (Deletes InType S) (sym (rolls-And es)) ∙ deletes_roll (Effect-F.And es)

  pub deletes-Forall : (ps : List Param) (e : Effect) → Deletes InType S (Forall ps e) ≡ (λ values g. (os : List ℕ) × AreTyped InType ps os × Deletes InType S e (values ++ os) g)
  deletes-Forall ps e = ap (Deletes InType S) (sym (rolls-Forall ps e)) ∙ deletes_roll (Effect-F.Forall ps e)

  pub deletes-When : (f : Formula) (e : Effect) → Deletes InType S (When f e) ≡ (λ values g. IsTrueIn InType S f values × Deletes InType S e values g)
  deletes-When f e = ap (Deletes InType S) (sym (rolls-When f e)) ∙ deletes_roll (Effect-F.When f e)
