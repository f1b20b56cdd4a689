-- Two values that are the same but for names: what a condition or an effect means, and what stands at one place of the lists of both.
use Rattle.std.proofs.Common.{ℕ, zero, suc, ◌≡◌, ◌-◌, ◌↔◌, inl, inr, List, [], ◌∷◌, map, Option, Some, None, slice_get, refl, ap, sym, subst, arith}
use Rattle.text_forms.specs.Words.{Word}
use Rattle.plan_texts.specs.Declared.{Declared}
use Rattle.plan_texts.specs.SpellsHddl.{hddl_words}
use Rattle.plan_texts.specs.Printable.{AreSoundParams, IsSound, IsSoundEffect}
use Rattle.plan_texts.specs.SoundValue.{IsSoundHddl, arities, scope_of}
use Rattle.plan_texts.specs.Said.{said, done}
use Rattle.plan_texts.specs.Alike.{object_said, action_said, task_said}
use Rattle.plan_texts.specs.Together.{Together}
use Rattle.plan_texts.proofs.Together.{together-of_maps}
use Rattle.plan_model.specs.Typing.{InType}
use Rattle.plan_model.specs.declared.terms.GroundAtom.{GroundAtom}
use Rattle.plan_model.specs.declared.terms.Param.{Param}
use Rattle.plan_model.specs.declared.types.Object.{Object}
use Rattle.plan_model.specs.declared.formulas.Formula.{Formula}
use Rattle.plan_model.specs.declared.effects.Effect.{Effect}
use Rattle.plan_model.specs.declared.schemas.TaskSchema.{TaskSchema}
use Rattle.plan_model.specs.declared.schemas.ActionSchema.{ActionSchema}
use Rattle.plan_model.specs.declared.schemas.MethodPlan.{MethodPlan}
use Rattle.plan_model.specs.declared.values.Hddl.{Hddl}
use Rattle.plan_model.specs.declared.values.Compiled.{Compiled}
use Rattle.plan_model.specs.plan_meaning.Truth.{State, AreTyped, IsTrueIn, Adds, Deletes, after}
use Rattle.slot_encoding.specs.SourceParts.{retyped}
use Rattle.slot_encoding.proofs.places.Places.{each-at-some}
use Rattle.slot_encoding.proofs.places.SourceFormulas.{truth-source}
use Rattle.plan_proof.specs.Same.{AreSameButNames}
use Rattle.plan_proof.proofs.machine.SourceEffects.{adds-source, deletes-source}
use Rattle.plan_proof.proofs.values.TypeNumbers.{AreApart}
use Rattle.plan_proof.proofs.values.SameSound.{unions-same}
use Rattle.plan_proof.proofs.values.SameTypes.{same_back, in_same, types-of, formula-printed, effect-printed}
use Rattle.plan_proof.proofs.values.SamePlans.{ArePlansAlike, IsSoundPlan}

-- the same atoms are true
pub record HoldTheSame (S S' : State) : Type 1 where
  pub same : (g : GroundAtom) → S g ↔ S' g

-- what the two say alike means the same: both are printed in one way
module _ (c d : Hddl) (same : AreSameButNames c d) (sc : IsSoundHddl c) (sd : IsSoundHddl d) (apart : AreApart (hddl_words d).unions) where
  abbrev v : Declared
  v = hddl_words c

  abbrev w : Declared
  w = hddl_words d

  abbrev InC : ℕ → ℕ → Type 0
  InC = InType c.types c.objects

  abbrev InD : ℕ → ℕ → Type 0
  InD = InType d.types d.objects

  -- the printed number of a type
  abbrev InPrinted : ℕ → ℕ → Type 0
  InPrinted o n = InC o (n - 2)

  shifted : (t : ℕ) → retyped t - 2 ≡ t
  shifted zero = refl
  shifted (suc t) = omega arith

  in_here : (o t : ℕ) → InPrinted o (retyped t) ↔ InC o t
  in_here o t = (λ x. subst (InC o) (shifted t) x, λ x. subst (InC o) (sym (shifted t)) x)

  in_there : (o t : ℕ) → InPrinted o (retyped t) ↔ InD o t
  in_there o t = let e = in_same c d same sc sd o t in let h = in_here o t in (λ x. e.0 (h.0 x), λ x. h.1 (e.1 x))

  module _ (S S' : State) (states : (g : GroundAtom) → S g ↔ S' g) where
    pub truth_same : (f g : Formula) (scope scope' : List Word) → said v f ≡ said w g → IsSound v (arities c) f scope → IsSound w (arities d) g scope'
        → (values : List ℕ) → IsTrueIn InC S f values ↔ IsTrueIn InD S' g values
    truth_same f g scope scope' e s t values =
        let h = formula-printed c d same sc sd apart [] 0 f g scope scope' e s t in
        let a = truth-source [] c.names InC InPrinted in_here v (arities c) S S (λ g l. (λ x. x, λ x. x)) [] f scope values s in
        let b = truth-source [] d.names InD InPrinted in_there w (arities d) S' S (λ g l. states g) [] g scope' values t in
        (λ x. b.0 (subst (λ z. IsTrueIn InPrinted S z values) h (a.1 x)), λ x. a.0 (subst (λ z. IsTrueIn InPrinted S z values) (sym h) (b.1 x)))

    module _ (f g : Effect) (scope scope' : List Word) (e : done v f ≡ done w g) (s : IsSoundEffect v (arities c) f scope) (t : IsSoundEffect w (arities d) g scope') (values : List ℕ) (x : GroundAtom) where
      adds_same : Adds InC S f values x ↔ Adds InD S' g values x
      adds_same =
          let h = effect-printed c d same sc sd apart [] 0 f g scope scope' e s t in
          let a = (adds-source [] c.names InC InPrinted in_here v (arities c) S S (λ g l. (λ x. x, λ x. x)) [] f).same scope values x s in
          let b = (adds-source [] d.names InD InPrinted in_there w (arities d) S' S (λ g l. states g) [] g).same scope' values x t in
          (λ y. b.0 (subst (λ z. Adds InPrinted S z values x) h (a.1 y)), λ y. a.0 (subst (λ z. Adds InPrinted S z values x) (sym h) (b.1 y)))

      deletes_same : Deletes InC S f values x ↔ Deletes InD S' g values x
      deletes_same =
          let h = effect-printed c d same sc sd apart [] 0 f g scope scope' e s t in
          let a = (deletes-source [] c.names InC InPrinted in_here v (arities c) S S (λ g l. (λ x. x, λ x. x)) [] f).same scope values x s in
          let b = (deletes-source [] d.names InD InPrinted in_there w (arities d) S' S (λ g l. states g) [] g).same scope' values x t in
          (λ y. b.0 (subst (λ z. Deletes InPrinted S z values x) h (a.1 y)), λ y. a.0 (subst (λ z. Deletes InPrinted S z values x) (sym h) (b.1 y)))

      pub after_same : after InC S f values x ↔ after InD S' g values x
      after_same =
          let a = adds_same in let b = deletes_same in let h = states x in (
            λ y. elim y [ inl z ↦ inl (h.0 z.0, λ k. z.1 (b.1 k)) | inr z ↦ inr (a.0 z) ],
            λ y. elim y [ inl z ↦ inl (h.1 z.0, λ k. z.1 (b.0 k)) | inr z ↦ inr (a.1 z) ],
          )

-- what stands at one place of two lists: nothing, or what goes together
abbrev pub StandTogether : {X Y : Type 0} → (X → Y → Type 0) → Option X → Option Y → Type 0
StandTogether R None None = Unit {0}
StandTogether R (Some x) (Some y) = R x y
StandTogether R None (Some y) = ⊥
StandTogether R (Some x) None = ⊥

pub at_place : {X Y : Type 0} (R : X → Y → Type 0) (xs : List X) (ys : List Y) → Together R xs ys → (k : ℕ) → StandTogether R (slice_get xs k) (slice_get ys k)
at_place R [] [] e k = tt
at_place R [] (y ∷ ys) e k = absurd e
at_place R (x ∷ xs) [] e k = absurd e
at_place R (x ∷ xs) (y ∷ ys) e zero = e.0
at_place R (x ∷ xs) (y ∷ ys) e (suc k) = at_place R xs ys e.1 k

pub at_some : {X Y : Type 0} (R : X → Y → Type 0) (o : Option X) (u : Option Y) → StandTogether R o u → (x : X) → o ≡ Some x → (y : Y) × (u ≡ Some y) × R x y
at_some R None u r x e = absurd cc
at_some R (Some z) None r x e = absurd r
at_some R (Some z) (Some y) r x e = (y, refl, subst (λ k. R k y) (let f : z ≡ x = cc in f) r)

stand_and : {X Y : Type 0} (R : X → Y → Type 0) (P : X → Type 0) (Q : Y → Type 0) (o : Option X) (u : Option Y) → StandTogether R o u
    → ((x : X) → o ≡ Some x → P x) → ((y : Y) → u ≡ Some y → Q y) → StandTogether (λ x y. R x y × P x × Q y) o u
stand_and R P Q None None r p q = tt
stand_and R P Q (Some x) (Some y) r p q = (r, p x refl, q y refl)
stand_and R P Q None (Some y) r p q = absurd r
stand_and R P Q (Some x) None r p q = absurd r

together_back : {X Y : Type 0} (R : X → Y → Type 0) (Q : Y → X → Type 0) → ((x : X) (y : Y) → R x y → Q y x) → (xs : List X) (ys : List Y) → Together R xs ys → Together Q ys xs
together_back R Q f [] [] e = tt
together_back R Q f [] (y ∷ ys) e = absurd e
together_back R Q f (x ∷ xs) [] e = absurd e
together_back R Q f (x ∷ xs) (y ∷ ys) e = (f x y e.0, together_back R Q f xs ys e.1)

abbrev pub SamePlan : Compiled → Compiled → MethodPlan → MethodPlan → Type 0
SamePlan c d p q = ArePlansAlike (hddl_words c.hddl) (hddl_words d.hddl) p q × (IsSoundPlan c.hddl p × IsSoundPlan d.hddl q)

-- two compiled values of the same texts
pub record AreTwins (c d : Compiled) : Type 0 where
  pub same : AreSameButNames c.hddl d.hddl
  pub sound : IsSoundHddl c.hddl
  pub sound_other : IsSoundHddl d.hddl
  pub apart : AreApart (hddl_words d.hddl).unions
  pub plans : Together (SamePlan c d) c.methods d.methods

pub twins_back : (c d : Compiled) → AreTwins c d → AreTwins d c
twins_back c d t = record {
  same = same_back c.hddl d.hddl t.same;
  sound = t.sound_other;
  sound_other = t.sound;
  apart = subst AreApart (sym (unions-same c.hddl d.hddl t.same)) t.apart;
  plans = together_back (SamePlan c d) (SamePlan d c) plan_back c.methods d.methods t.plans;
}
  where
    plan_back : (p q : MethodPlan) → SamePlan c d p q → SamePlan d c q p
    plan_back p q (a, (s, u)) = (record { schema = sym a.schema; checked = sym a.checked; tested = sym a.tested; line = sym a.line; heir = sym a.heir; copiers = sym a.copiers; guards = sym a.guards }, (u, s))

pub record IsSoundAction (h : Hddl) (s : ActionSchema) : Type 0 where
  pub params : AreSoundParams (hddl_words h) (arities h) s.params
  pub pre : IsSound (hddl_words h) (arities h) s.pre (scope_of h s.params)
  pub eff : IsSoundEffect (hddl_words h) (arities h) s.eff (scope_of h s.params)

abbrev pub SameAction : Compiled → Compiled → ActionSchema → ActionSchema → Type 0
SameAction c d s u = (action_said (hddl_words c.hddl) s ≡ action_said (hddl_words d.hddl) u) × IsSoundAction c.hddl s × IsSoundAction d.hddl u

abbrev pub HasSoundParams : Hddl → TaskSchema → Type 0
HasSoundParams h s = AreSoundParams (hddl_words h) (arities h) s.params

abbrev pub SameTask : Compiled → Compiled → TaskSchema → TaskSchema → Type 0
SameTask c d s u = (task_said (hddl_words c.hddl) s ≡ task_said (hddl_words d.hddl) u) × HasSoundParams c.hddl s × HasSoundParams d.hddl u

abbrev pub SameObject : Compiled → Compiled → Object → Object → Type 0
SameObject c d x y = object_said (hddl_words c.hddl) x ≡ object_said (hddl_words d.hddl) y

abbrev pub types : List Param → List ℕ
types ps = map (λ (p : Param). p.ty) ps

sound_action : (h : Hddl) → IsSoundHddl h → (k : ℕ) (s : ActionSchema) → slice_get h.actions k ≡ Some s → IsSoundAction h s
sound_action h sound k s e = record {
  params = each-at-some (λ (a : ActionSchema). AreSoundParams (hddl_words h) (arities h) a.params) h.actions k s sound.action_params e;
  pre = each-at-some (λ (a : ActionSchema). IsSound (hddl_words h) (arities h) a.pre (scope_of h a.params)) h.actions k s sound.pre e;
  eff = each-at-some (λ (a : ActionSchema). IsSoundEffect (hddl_words h) (arities h) a.eff (scope_of h a.params)) h.actions k s sound.eff e;
}

module _ (c d : Compiled) (t : AreTwins c d) where
  pub plan_place : (m : ℕ) → StandTogether (SamePlan c d) (slice_get c.methods m) (slice_get d.methods m)
  plan_place = at_place (SamePlan c d) c.methods d.methods t.plans

  pub action_place : (a : ℕ) → StandTogether (SameAction c d) (slice_get c.hddl.actions a) (slice_get d.hddl.actions a)
  action_place a =
      stand_and (λ s u. action_said (hddl_words c.hddl) s ≡ action_said (hddl_words d.hddl) u) (IsSoundAction c.hddl) (IsSoundAction d.hddl) (slice_get c.hddl.actions a) (slice_get d.hddl.actions a)
      (at_place (λ s u. action_said (hddl_words c.hddl) s ≡ action_said (hddl_words d.hddl) u) c.hddl.actions d.hddl.actions
      (together-of_maps (action_said (hddl_words c.hddl)) (action_said (hddl_words d.hddl)) c.hddl.actions d.hddl.actions t.same.alike.actions) a)
      (sound_action c.hddl t.sound a) (sound_action d.hddl t.sound_other a)

  pub task_place : (k : ℕ) → StandTogether (SameTask c d) (slice_get c.hddl.tasks k) (slice_get d.hddl.tasks k)
  task_place k =
      stand_and (λ s u. task_said (hddl_words c.hddl) s ≡ task_said (hddl_words d.hddl) u) (HasSoundParams c.hddl) (HasSoundParams d.hddl) (slice_get c.hddl.tasks k) (slice_get d.hddl.tasks k)
      (at_place (λ s u. task_said (hddl_words c.hddl) s ≡ task_said (hddl_words d.hddl) u) c.hddl.tasks d.hddl.tasks
      (together-of_maps (task_said (hddl_words c.hddl)) (task_said (hddl_words d.hddl)) c.hddl.tasks d.hddl.tasks t.same.alike.tasks) k)
      (λ s e. each-at-some (HasSoundParams c.hddl) c.hddl.tasks k s t.sound.task_params e) (λ s e. each-at-some (HasSoundParams d.hddl) d.hddl.tasks k s t.sound_other.task_params e)

  pub object_place : (o : ℕ) → StandTogether (SameObject c d) (slice_get c.hddl.objects o) (slice_get d.hddl.objects o)
  object_place = at_place (SameObject c d) c.hddl.objects d.hddl.objects (together-of_maps (object_said (hddl_words c.hddl)) (object_said (hddl_words d.hddl)) c.hddl.objects d.hddl.objects t.same.alike.objects)

  pub action_types : (s u : ActionSchema) → SameAction c d s u → types s.params ≡ types u.params
  action_types s u r = types-of c.hddl d.hddl t.same t.sound t.sound_other t.apart s.params u.params (ap (λ z. z.1) r.0) r.1.params.0 r.2.params.0

  pub task_types : (s u : TaskSchema) → SameTask c d s u → types s.params ≡ types u.params
  task_types s u r = types-of c.hddl d.hddl t.same t.sound t.sound_other t.apart s.params u.params (ap (λ z. z.1) r.0) r.1.0 r.2.0

  pub plan_types : (p q : MethodPlan) → SamePlan c d p q → types p.schema.params ≡ types q.schema.params
  plan_types p q r = types-of c.hddl d.hddl t.same t.sound t.sound_other t.apart p.schema.params q.schema.params (ap (λ z. z.4.0) r.0.schema) r.1.0.params.0 r.1.1.params.0

  -- objects of one type here are of it there
  pub typed_to : (ps qs : List Param) (os : List ℕ) → types ps ≡ types qs → AreTyped (InType c.hddl.types c.hddl.objects) ps os → AreTyped (InType d.hddl.types d.hddl.objects) qs os
  typed_to [] [] os e x = still os x
    where
      still : (os : List ℕ) → AreTyped (InType c.hddl.types c.hddl.objects) [] os → AreTyped (InType d.hddl.types d.hddl.objects) [] os
      still [] y = y
      still (o ∷ os) y = y
  typed_to [] (q ∷ qs) os e x = absurd cc
  typed_to (p ∷ ps) [] os e x = absurd cc
  typed_to (p ∷ ps) (q ∷ qs) [] e x = x
  typed_to (p ∷ ps) (q ∷ qs) (o ∷ os) e x =
      let f : p.ty ≡ q.ty = cc in
      (subst (InType d.hddl.types d.hddl.objects o) f ((in_same c.hddl d.hddl t.same t.sound t.sound_other o p.ty).0 x.0), typed_to ps qs os (let g : types ps ≡ types qs = cc in g) x.1)
