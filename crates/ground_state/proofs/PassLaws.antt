-- Effects without conditions, part by part, and what passes over them do to a state.
use Rattle.std.proofs.Common.{ℕ, ◌≡◌, ◌≤◌, ◌↔◌, ◌⊎◌, inl, inr, Bool, true, false, not, List, ◌++◌, length, Result, Ok, Err, refl, ap, sym, subst, ◌∙◌, true≢false}
use Rattle.std.specs.Result.{OnErr}
use Rattle.std.specs.Option.{option_map}
use Rattle.plan_model.specs.declared.terms.Atom.{Atom}
use Rattle.plan_model.specs.declared.terms.GroundAtom.{GroundAtom}
use Rattle.plan_model.specs.declared.terms.Param.{Param}
use Rattle.plan_model.specs.declared.formulas.Formula.{Formula}
use Rattle.plan_model.specs.declared.effects.Effect.{Effect, roll-Effect}
use Rattle.plan_model.specs.declared.effects.Effect.TheFolds.{rec-roll-Effect, map-Effect}
use Rattle.plan_model.specs.declared.effects.Effect.TheOpen.{Effect-F}
use Rattle.plan_model.specs.declared.effects.Effect.TheVariants as E
use Rattle.plan_model.specs.plan_meaning.Truth as truth
use Rattle.plan_model.specs.plan_meaning.Truth.{ground, after}
use Rattle.ground_state.specs.declared.state.State.{State}
use Rattle.ground_state.specs.declared.passes.Pass.{Pass}
use Rattle.ground_state.specs.declared.passes.Pass.TheVariants as passes
use Rattle.ground_state.specs.Frames.{Frame}
use Rattle.ground_state.specs.States.{note_of, atoms, Has, IsSet}
use Rattle.ground_state.specs.Search.{Touches}
use Rattle.ground_state.specs.Passes.{plain_step, plain, IsPlain, ArePlain, literal, of_adds, IsIdle, Passes, HasOnlyEntered}
use Rattle.ground_state.proofs.Lists.{put-then, taken-then}
use Rattle.ground_state.proofs.StateLaws.{is_true, same-twice, changed_by, made-false, set-true, set-false, set-keeps}
use Rattle.ground_state.proofs.RoomEquations.{each-map}
use Rattle.ground_state.proofs.GatherCases.{touches-Add, touches-Add-not, touches-Delete, touches-Delete-not, touches-Forall}

plain-natural : (X : Type 0) (v : X → Effect) (k : Effect → ℕ → Type 0) (x : Effect-F X) → plain_step (λ p. k (v p)) x ≡ plain_step k (map-Effect X Effect v x)
plain-natural X v k (Effect-F.Add a) = refl
plain-natural X v k (Effect-F.Delete a) = refl
plain-natural X v k (Effect-F.And es) = λ i n. each-map X Effect v k es n i
plain-natural X v k (Effect-F.Forall ps e) = refl
plain-natural X v k (Effect-F.When f e) = refl

plain-roll : (x : Effect-F Effect) → plain (roll-Effect x) ≡ plain_step plain x
plain-roll x = rec-roll-Effect (ℕ → Type 0) (λ X v k layer. plain_step k layer) plain-natural x

module _ (env : Frame) (e : Effect) where
  -- at an effect of this kind
  plain-as : (x : Effect-F Effect) → roll-Effect x ≡ e → IsPlain env e ≡ plain_step plain x env.arity
  plain-as x d = ap (λ (P : ℕ → Type 0). P env.arity) (ap plain (sym d) ∙ plain-roll x)

  at : (x : Effect-F Effect) → roll-Effect x ≡ e → IsPlain env e → plain_step plain x env.arity
  at x d h = subst (λ X. X) (plain-as x d) h

  from : (x : Effect-F Effect) → roll-Effect x ≡ e → plain_step plain x env.arity → IsPlain env e
  from x d h = subst (λ X. X) (sym (plain-as x d)) h

  pub plain-Add : (a : Atom) → e ≡ E.Add a → IsPlain env e → length a.args ≤ env.arity
  plain-Add a d h = at (Effect-F.Add a) (E.rolls-Add a ∙ sym d) h

  pub plain-Delete : (a : Atom) → e ≡ E.Delete a → IsPlain env e → length a.args ≤ env.arity
  plain-Delete a d h = at (Effect-F.Delete a) (E.rolls-Delete a ∙ sym d) h

  pub plain-And : (ps xs : List Effect) → e ≡ E.And ps → xs ≡ ps → IsPlain env e → ArePlain env xs
  plain-And ps xs d g h = subst (ArePlain env) (sym g) (at (Effect-F.And ps) (E.rolls-And ps ∙ sym d) h)

  pub plain-Forall : (ps : List Param) (p x : Effect) → e ≡ E.Forall ps p → x ≡ p → IsPlain env e → IsPlain env x
  plain-Forall ps p x d g h = subst (IsPlain env) (sym g) (at (Effect-F.Forall ps p) (E.rolls-Forall ps p ∙ sym d) h)

  pub plain-When : (f : Formula) (p : Effect) → e ≡ E.When f p → IsPlain env e → ⊥
  plain-When f p d h = at (Effect-F.When f p) (E.rolls-When f p ∙ sym d) h

  pub is-plain-Add : (a : Atom) → e ≡ E.Add a → length a.args ≤ env.arity → IsPlain env e
  is-plain-Add a d h = from (Effect-F.Add a) (E.rolls-Add a ∙ sym d) h

  pub is-plain-Delete : (a : Atom) → e ≡ E.Delete a → length a.args ≤ env.arity → IsPlain env e
  is-plain-Delete a d h = from (Effect-F.Delete a) (E.rolls-Delete a ∙ sym d) h

  pub is-plain-And : (ps xs : List Effect) → e ≡ E.And ps → xs ≡ ps → ArePlain env xs → IsPlain env e
  is-plain-And ps xs d g h = from (Effect-F.And ps) (E.rolls-And ps ∙ sym d) (subst (ArePlain env) g h)

  pub is-plain-Forall : (ps : List Param) (p x : Effect) → e ≡ E.Forall ps p → x ≡ p → IsPlain env x → IsPlain env e
  is-plain-Forall ps p x d g h = from (Effect-F.Forall ps p) (E.rolls-Forall ps p ∙ sym d) (subst (IsPlain env) g h)

pub not-false : (b : Bool) → not b ≡ false → b ≡ true
not-false true e = refl
not-false false e = absurd (true≢false e)

pub on_error : {T E : Type 0} (r : Result T E) (P : Type 0) → P → OnErr r P
on_error (Ok x) P h = tt
on_error (Err e) P h = h

-- nothing is done
pub passes-nothing : (p : Pass) (P : truth.State) (s : State) → ((g : GroundAtom) → P g → ⊥) → Passes p P s s
passes-nothing passes.Enter P s n = (λ g. (λ x. x, λ x. x), (λ g i. i, λ g x. absurd (n g x)))
passes-nothing passes.Deny P s n = (λ g. (λ x. (x, n g), λ x. x.0), λ g i. i)
passes-nothing passes.Affirm P s n = (λ h g. (λ x. inl x, λ x. elim x [ inl y ↦ y | inr y ↦ absurd (n g y) ]), λ g i. i)
passes-nothing passes.Forget P s n = λ g. (λ x. x, λ x. x)

-- over the same atoms
pub passes-same : (p : Pass) (P Q : truth.State) (s t : State) → ((g : GroundAtom) → P g ↔ Q g) → Passes p P s t → Passes p Q s t
passes-same passes.Enter P Q s t e h = (h.0, (h.1.0, λ g q. h.1.1 g ((e g).1 q)))
passes-same passes.Deny P Q s t e h = (
  λ g. (λ x. let y = (h.0 g).0 x in (y.0, λ q. y.1 ((e g).1 q)), λ x. (h.0 g).1 (x.0, λ q. x.1 ((e g).0 q))),
  h.1,
)
passes-same passes.Affirm P Q s t e h = (
  λ n g.
      let i = h.0 (λ g q. n g ((e g).0 q)) g in (
        λ x. elim (i.0 x) [ inl y ↦ inl y | inr y ↦ inr ((e g).0 y) ],
        λ x. i.1 (elim x [ inl y ↦ inl y | inr y ↦ inr ((e g).1 y) ]),
      ),
  h.1,
)
passes-same passes.Forget P Q s t e h = h

-- over some atoms and then over others
pub passes-then : (p : Pass) (P Q R : truth.State) (s m t : State) → ((g : GroundAtom) → R g ↔ (P g ⊎ Q g)) → Passes p P s m → Passes p Q m t → Passes p R s t
passes-then passes.Enter P Q R s m t e h k = (
  same-twice s m t h.0 k.0,
  (λ g i. k.1.0 g (h.1.0 g i), λ g r. elim ((e g).0 r) [ inl x ↦ k.1.0 g (h.1.1 g x) | inr x ↦ k.1.1 g x ]),
)
passes-then passes.Deny P Q R s m t e h k = (λ g. taken-then (e g) (h.0 g) (k.0 g), λ g i. k.1 g (h.1 g i))
passes-then passes.Affirm P Q R s m t e h k = (
  λ n g. put-then (e g) (h.0 (λ g x. n g ((e g).1 (inl x))) g) (k.0 (λ g x. h.1 g (n g ((e g).1 (inr x)))) g),
  λ g i. k.1 g (h.1 g i),
)
passes-then passes.Forget P Q R s m t e h k = same-twice s m t h k

-- the atom is noted as true where it is added, and as false where it is deleted
pub passes-set : (p : Pass) (s t : State) (a : GroundAtom) (adds : Bool) → (p ≡ passes.Deny) ⊎ (p ≡ passes.Affirm) → adds ≡ of_adds p → IsSet s a adds t → Passes p (λ g. (adds ≡ of_adds p) × (g ≡ a)) s t
passes-set passes.Enter s t a adds w e set = absurd (elim w [ inl d ↦ cc d | inr d ↦ cc d ])
passes-set passes.Deny s t a adds w e set = (
  λ g.
      let h = made-false s t a (option_map (λ _. adds) (note_of s a)) set (subst (λ b. is_true (option_map (λ _. b) (note_of s a)) ≡ false) (sym e) (set-false (note_of s a))) g in
      (λ x. let y = h.0 x in (y.0, λ q. y.1 q.1), λ x. h.1 (x.0, λ d. x.1 (e, d))),
  set-keeps s t a adds set,
)
passes-set passes.Affirm s t a adds w e set = (
  λ i g.
      let h = set-true s t a adds set (i a (e, refl)) e g in
      (λ x. elim (h.0 x) [ inl y ↦ inl y | inr y ↦ inr (e, y) ], λ x. h.1 (elim x [ inl y ↦ inl y | inr y ↦ inr y.1 ])),
  set-keeps s t a adds set,
)
passes-set passes.Forget s t a adds w e set = absurd (elim w [ inl d ↦ cc d | inr d ↦ cc d ])

-- a pass that needs memory leaves the state as it was
pub only-entered : (p : Pass) (P : truth.State) (s m t : State) → Passes p P s m → HasOnlyEntered p m t → HasOnlyEntered p s t
only-entered p P s m t h k = (k.0, same-twice s m t (subst (λ q. Passes q P s m) k.0 h).0 k.1)

module _ (InType : ℕ → ℕ → Type 0) (S : truth.State) where
  -- what a literal touches
  pub touches-literal : (adds b : Bool) (e : Effect) (a : Atom) (v : List ℕ) → e ≡ literal b a → (g : GroundAtom) → ((b ≡ adds) × (g ≡ ground v a)) ↔ Touches InType S adds e v g
  touches-literal true true e a v q g = let t = touches-Add InType S v true e a q refl g in (λ x. t.0 x.1, λ x. (refl, t.1 x))
  touches-literal false false e a v q g = let t = touches-Delete InType S v false e a q refl g in (λ x. t.0 x.1, λ x. (refl, t.1 x))
  touches-literal true false e a v q g = (λ x. absurd (true≢false (sym x.0)), λ x. absurd (touches-Delete-not InType S v true e a q refl g x))
  touches-literal false true e a v q g = (λ x. absurd (true≢false x.0), λ x. absurd (touches-Add-not InType S v false e a q refl g x))

  not-same : (b : Bool) → not b ≡ b → ⊥
  not-same true e = true≢false (sym e)
  not-same false e = true≢false e

  -- nothing is done where the pass is idle
  pub passes-idle : (p : Pass) (e x : Effect) (ps xs : List Param) (y : Effect) (v : List ℕ) (s : State) → e ≡ E.Forall ps x → xs ≡ ps → y ≡ x → IsIdle p y → Passes p (Touches InType S (of_adds p) e v) s s
  passes-idle p e x ps xs y v s q d k i = passes-nothing p (Touches InType S (of_adds p) e v) s (λ g t.
      let w = (touches-Forall InType S v (of_adds p) e ps xs x y q d k g).1 t in
      not-same (of_adds p) ((touches-literal (of_adds p) (not (of_adds p)) y i.0 (v ++ w.0) i.1 g).1 w.2).0
      )

-- the state after the passes in their order, each with the objects of the environment that the one before it left
pub changed : (InType : ℕ → ℕ → Type 0) (old entered denied affirmed new : State) (e : Effect) (f once twice thrice : Frame) → once ≡ f → twice ≡ once → thrice ≡ twice
    → Passes passes.Enter (Touches InType (atoms old) true e f.objects) old entered
    → Passes passes.Deny (Touches InType (atoms old) false e once.objects) entered denied
    → Passes passes.Affirm (Touches InType (atoms old) true e twice.objects) denied affirmed
    → Passes passes.Forget (Touches InType (atoms old) false e thrice.objects) affirmed new
    → Has new (after InType (atoms old) e f.objects)
changed InType old entered denied affirmed new e f once twice thrice a b c h k m n =
    let denies = subst (λ (x : Frame). Passes passes.Deny (Touches InType (atoms old) false e x.objects) entered denied) a k in
    let affirms = subst (λ (x : Frame). Passes passes.Affirm (Touches InType (atoms old) true e x.objects) denied affirmed) (b ∙ a) m in
    changed_by old entered denied affirmed new (Touches InType (atoms old) true e f.objects) (Touches InType (atoms old) false e f.objects) h.0 denies.0 (affirms.0 (λ g t. denies.1 g (h.1.1 g t))) n
