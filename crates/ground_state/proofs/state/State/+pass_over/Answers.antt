use Rattle.std.proofs.Common.{ℕ, ◌≡◌, ◌+◌, ◌<◌, ◌++◌, [], ◌∷◌, true, false, length, take, refl, ap, sym, subst, ◌∙◌, arith}
use Rattle.std.proofs.lemmas.Bool.{eqb-true}
use Rattle.std.proofs.lemmas.List.{take_all}
use Rattle.std.proofs.lemmas.Result.{on_ok_weaker}
use Rattle.plan_model.specs.declared.terms.GroundAtom.{GroundAtom}
use Rattle.plan_model.specs.Typing.{InType}
use Rattle.plan_model.proofs.PartsOf.{in_type_within}
use Rattle.plan_model.specs.plan_meaning.Truth as truth
use Rattle.plan_model.specs.plan_meaning.Truth.{ground}
use Rattle.problem_index.specs.Domains.{places}
use Rattle.ground_state.specs.declared.state.State.{State}
use Rattle.ground_state.specs.Frames.{Frame, frame, pushed}
use Rattle.ground_state.specs.Room.{effect_fits, EffectFits, EffectFitsWithin}
use Rattle.ground_state.specs.States.{atoms}
use Rattle.ground_state.specs.Search.{Touches, OneTouches, TouchesWithin}
use Rattle.ground_state.specs.Passes.{plain, IsPlain, of_adds, Passes}
use Rattle.ground_state.proofs.EffectSizes as sizes
use Rattle.ground_state.proofs.RoomEquations as room
use Rattle.ground_state.proofs.DomainLaws.{AtPlace, at_one, at_none, type_below}
use Rattle.ground_state.proofs.DomainCases.{within-domain}
use Rattle.ground_state.proofs.TruthCases.{only-one}
use Rattle.ground_state.proofs.Denials.{denied-within}
use Rattle.ground_state.proofs.GatherCases as cases
use Rattle.ground_state.proofs.PassLaws as laws
use Rattle.ground_state.proofs.state.State.+pass_over.Goals as goal
use Rattle.ground_state.proofs.state.State.+pass_over.Goals.{pass_over_of-in-Some+in_ok-passed, pass_over_of-in_default}

pub pass_over-visit-requires : goal.pass_over-visit-requires
pass_over-visit-requires t c = record { room = laws.plain-Add (frame c.args.env.now) c.args.eff.now c.in-Add.atom c.in-Add.is c.requires.plain }

pub pass_over-visit-requires-in-Delete : goal.pass_over-visit-requires-in-Delete
pass_over-visit-requires-in-Delete t c = record { room = laws.plain-Delete (frame c.args.env.now) c.args.eff.now c.in-Delete.atom c.in-Delete.is c.requires.plain }

pub pass_over-pass_over_each-requires : goal.pass_over-pass_over_each-requires
pass_over-pass_over_each-requires t c =
    let env = frame c.args.env.now in (
      (let d = c.decreases in let l = sizes.falls-And c.args.eff.now c.in-And.parts c.as_slice.result.now c.in-And.is c.as_slice.ensures.items in omega (arith, d, l)),
      (
        c.requires.world,
        (
          room.fits-All env c.args.eff.now c.in-And.parts c.as_slice.result.now c.in-And.is c.as_slice.ensures.items c.requires.room,
          laws.plain-And env c.args.eff.now c.in-And.parts c.as_slice.result.now c.in-And.is c.as_slice.ensures.items c.requires.plain,
        ),
      ),
    )

pub pass_over-returns-then-is_idle-clause-passed : goal.pass_over-returns-then-is_idle-clause-passed
pass_over-returns-then-is_idle-clause-passed t c s =
    laws.passes-idle (InType c.args.world.now.types.now c.args.world.now.objects.now) (atoms s) c.args.pass c.args.eff.now c.in-Forall.body c.in-Forall.params c.in-Forall.params c.get.result.now c.args.env.now.values.items c.args.self.now
    c.in-Forall.is refl c.get.ensures.value c.if-is_idle.ensures

pub pass_over-pass_over_within-requires : goal.pass_over-pass_over_within-requires
pass_over-pass_over_within-requires t c =
    let env = frame c.args.env.now in
    let xs = c.as_slice-params.result.now in
    let x = c.get-in-Forall.result.now in
    let i = c.as_slice-params.ensures.items in
    let v = c.get-in-Forall.ensures.value in (
      (let d = c.decreases in let l = sizes.falls-Forall c.args.eff.now c.in-Forall.params xs c.in-Forall.body x c.in-Forall.is i v in omega (arith, d, l)),
      (
        c.requires.world,
        (
          room.fits-Each env c.args.eff.now c.in-Forall.params xs c.in-Forall.body x c.in-Forall.is i v c.requires.room,
          laws.plain-Forall env c.args.eff.now c.in-Forall.params c.in-Forall.body x c.in-Forall.is v c.requires.plain,
        ),
      ),
    )

pub pass_over-returns-in-Add-clause-passed : goal.pass_over-returns-in-Add-clause-passed
pass_over-returns-in-Add-clause-passed t c =
    let I = InType c.args.world.now.types.now c.args.world.now.objects.now in
    let v = c.args.env.now.values.items in
    let p = c.args.pass in
    let a = c.in-Add.atom in
    on_ok_weaker c.visit.result (λ h s.
    laws.passes-same p (λ g. (true ≡ of_adds p) × (g ≡ ground v a)) (Touches I (atoms s) (of_adds p) c.args.eff.now v) c.args.self.now c.visit.new.self
    (laws.touches-literal I (atoms s) (of_adds p) true c.args.eff.now a v c.in-Add.is) h
    ) c.visit.ensures.passed

pub pass_over-returns-in-Delete-clause-passed : goal.pass_over-returns-in-Delete-clause-passed
pass_over-returns-in-Delete-clause-passed t c =
    let I = InType c.args.world.now.types.now c.args.world.now.objects.now in
    let v = c.args.env.now.values.items in
    let p = c.args.pass in
    let a = c.in-Delete.atom in
    on_ok_weaker c.visit-in-Delete.result (λ h s.
    laws.passes-same p (λ g. (false ≡ of_adds p) × (g ≡ ground v a)) (Touches I (atoms s) (of_adds p) c.args.eff.now v) c.args.self.now c.visit-in-Delete.new.self
    (laws.touches-literal I (atoms s) (of_adds p) false c.args.eff.now a v c.in-Delete.is) h
    ) c.visit-in-Delete.ensures.passed

pub pass_over-returns-in-And-clause-passed : goal.pass_over-returns-in-And-clause-passed
pass_over-returns-in-And-clause-passed t c =
    let I = InType c.args.world.now.types.now c.args.world.now.objects.now in
    let v = c.args.env.now.values.items in
    let p = c.args.pass in
    let xs = c.as_slice.result.now in
    on_ok_weaker c.pass_over_each.result (λ h s.
    laws.passes-same p (OneTouches I (atoms s) (of_adds p) xs v) (Touches I (atoms s) (of_adds p) c.args.eff.now v) c.args.self.now c.pass_over_each.new.self
    (cases.touches-And I (atoms s) v (of_adds p) c.args.eff.now c.in-And.parts xs c.in-And.is c.as_slice.ensures.items) (h s)
    ) c.pass_over_each.ensures.passed

pub pass_over-returns-else-is_idle-clause-passed : goal.pass_over-returns-else-is_idle-clause-passed
pass_over-returns-else-is_idle-clause-passed t c =
    let I = InType c.args.world.now.types.now c.args.world.now.objects.now in
    let v = c.args.env.now.values.items in
    let p = c.args.pass in
    let xs = c.as_slice-params.result.now in
    let x = c.get-in-Forall.result.now in
    on_ok_weaker c.pass_over_within.result (λ h s.
    laws.passes-same p (TouchesWithin I (atoms s) (of_adds p) xs x v) (Touches I (atoms s) (of_adds p) c.args.eff.now v) c.args.self.now c.pass_over_within.new.self
    (cases.touches-Forall I (atoms s) v (of_adds p) c.args.eff.now c.in-Forall.params xs c.in-Forall.body x c.in-Forall.is c.as_slice-params.ensures.items c.get-in-Forall.ensures.value) (h s)
    ) c.pass_over_within.ensures.passed

pub pass_over-returns-in-When-clause-passed : goal.pass_over-returns-in-When-clause-passed
pass_over-returns-in-When-clause-passed t c s = absurd (laws.plain-When (frame c.args.env.now) c.args.eff.now c.in-When.field-0 c.in-When.field-1 c.in-When.is c.requires.plain)

pub pass_over_each-pass_over-requires : goal.pass_over_each-pass_over-requires
pass_over_each-pass_over-requires t c =
    let env = frame c.args.env.now in
    let i = c.loop-part.part-index in
    let e = c.part-item.result in
    let l = c.loop-part-test.true in (
      (let d = c.decreases in let f = sizes.falls-part c.args.parts.now i e e l c.part-item.is in omega (arith, d, f)),
      (
        c.requires.world,
        (
          subst (λ (f : Frame). EffectFits f c.part-item.result) (sym c.loop-part.invariant.0)
              (subst (EffectFits (frame c.args.env.now)) (sym c.part-item.is)
              (room.each-at (effect_fits (frame c.args.env.now).room (frame c.args.env.now).arity) c.args.parts.now (length c.args.env.now.values.items) i e l c.requires.room)),
          subst (λ (f : Frame). IsPlain f c.part-item.result) (sym c.loop-part.invariant.0)
              (subst (IsPlain (frame c.args.env.now)) (sym c.part-item.is) (room.each-at plain c.args.parts.now (frame c.args.env.now).arity i e l c.requires.plain)),
        ),
      ),
    )

pub pass_over_each-returns-in_err-pass_over-clause-unchanged : goal.pass_over_each-returns-in_err-pass_over-clause-unchanged
pass_over_each-returns-in_err-pass_over-clause-unchanged t c =
    let I = InType c.args.world.now.types.now c.args.world.now.objects.now in
    let p = c.args.pass in
    laws.on_error c.from_residual.result _
    (laws.only-entered p (OneTouches I (atoms c.args.self.now) (of_adds p) (take c.loop-part.part-index c.args.parts.now) c.args.env.now.values.items) c.args.self.now c.loop-part.self c.pass_over.new.self
    (c.loop-part.invariant.1 c.args.self.now) c.in_err-pass_over.ensures.unchanged)

pub pass_over_each-loop-part-preserved : goal.pass_over_each-loop-part-preserved
pass_over_each-loop-part-preserved t c =
    let I = InType c.args.world.now.types.now c.args.world.now.objects.now in
    let v = c.args.env.now.values.items in
    let p = c.args.pass in
    let i = c.loop-part.part-index in
    let e = c.part-item.result in (
      c.in_ok-pass_over.ensures.kept ∙ c.loop-part.invariant.0,
      λ s. laws.passes-then p (OneTouches I (atoms s) (of_adds p) (take i c.args.parts.now) v) (Touches I (atoms s) (of_adds p) e v) (OneTouches I (atoms s) (of_adds p) (take (i + 1) c.args.parts.now) v)
          c.args.self.now c.loop-part.self c.pass_over.new.self
          (cases.touches-next I (atoms s) v (of_adds p) c.args.parts.now i e c.loop-part-test.true c.part-item.is) (c.loop-part.invariant.1 s)
          (subst (λ (f : Frame). Passes p (Touches I (atoms s) (of_adds p) e f.objects) c.loop-part.self c.pass_over.new.self) c.loop-part.invariant.0 (c.in_ok-pass_over.ensures.passed s)),
    )

pub pass_over_each-returns-clause-passed : goal.pass_over_each-returns-clause-passed
pass_over_each-returns-clause-passed t c s =
    let I = InType c.args.world.now.types.now c.args.world.now.objects.now in
    let p = c.args.pass in
    subst (λ es. Passes p (OneTouches I (atoms s) (of_adds p) es c.args.env.now.values.items) c.args.self.now c.loop-part.self) (take_all c.loop-part.part-index c.args.parts.now c.loop-part-test.false) (c.loop-part.invariant.1 s)

pub pass_over_within-returns-in_default-clause-passed : goal.pass_over_within-returns-in_default-clause-passed
pass_over_within-returns-in_default-clause-passed t c =
    let I = InType c.args.world.now.types.now c.args.world.now.objects.now in
    let v = c.args.env.now.values.items in
    let p = c.args.pass in
    on_ok_weaker c.pass_over.result (λ h s.
    laws.passes-same p (Touches I (atoms s) (of_adds p) c.args.body.now v) (TouchesWithin I (atoms s) (of_adds p) c.args.params.now c.args.body.now v) c.args.self.now c.pass_over.new.self
    (cases.within-none I (atoms s) v (of_adds p) c.args.params.now c.args.body.now c.in_default.ensures.cases) (h s)
    ) c.pass_over.ensures.passed

pub pass_over_in_parts-pass_over_of-requires : goal.pass_over_in_parts-pass_over_of-requires
pass_over_in_parts-pass_over_of-requires t c = ((let d = c.decreases in omega (arith, d)), (c.requires.world, (c.among-domain.ensures c.args.world.now.types.now c.args.param.now.ty c.new-parts.ensures, (c.requires.room, c.requires.plain))))

pub pass_over_of-deny_each-requires : goal.pass_over_of-deny_each-requires
pass_over_of-deny_each-requires t c = record { below = type_below c.args.world.now.types.now c.args.world.now.objects.now c.args.param.now.ty c.args.domain.now c.len-count.result c.len-count.ensures.length c.requires.domain }

pub pass_over_of-returns-then-deny_each-clause-passed : goal.pass_over_of-returns-then-deny_each-clause-passed
pass_over_of-returns-then-deny_each-clause-passed t c s =
    let p = c.args.param.now in
    let rest = c.args.rest.now in
    let one = only-one (p ∷ rest) p rest refl (eqb-true (length c.args.rest.now) 0 (sym c.is_empty.ensures ∙ c.if-is_empty.true)) in
    denied-within (InType c.args.world.now.types.now c.args.world.now.objects.now) (atoms s) c.args.pass c.args.domain.now c.args.body.now c.args.env.now.values.items p (p ∷ rest) c.args.self.now c.deny_each.new.self one c.requires.domain c.if-deny_each.ensures

pub pass_over_of-returns-in_err-passed-clause-unchanged : goal.pass_over_of-returns-in_err-passed-clause-unchanged
pass_over_of-returns-in_err-passed-clause-unchanged t c =
    let I = InType c.args.world.now.types.now c.args.world.now.objects.now in
    let p = c.args.pass in
    let v = c.args.env.now.values.items in
    let P : truth.State = λ g. (i : ℕ) × (i < c.loop-place.place) × AtPlace c.args.domain.now (λ o. TouchesWithin I (atoms c.args.self.now) (of_adds p) c.args.rest.now c.args.body.now (v ++ o ∷ []) g) i in
    laws.on_error c.from_residual.result _ (laws.only-entered p P c.args.self.now c.loop-place.self c.pass_over_within-passed.new.self (c.loop-place.invariant.1 c.args.self.now) c.in_err-passed.ensures.unchanged)

pub pass_over_of-returns-in_err-passed-clause-kept : goal.pass_over_of-returns-in_err-passed-clause-kept
pass_over_of-returns-in_err-passed-clause-kept t c = c.pop.ensures (frame c.loop-place.env) c.in-Some.object (c.pass_over_within-passed.ensures.kept ∙ c.push.ensures) ∙ c.loop-place.invariant.0

pub pass_over_of-push-requires : goal.pass_over_of-push-requires
pass_over_of-push-requires t c = subst (λ (e : Frame). length e.objects < e.room) (sym c.loop-place.invariant.0) (room.room-for-one-effect (frame c.args.env.now) c.args.param.now c.args.rest.now c.args.body.now c.requires.room)

pub pass_over_of-pass_over_within-passed-requires : goal.pass_over_of-pass_over_within-passed-requires
pass_over_of-pass_over_within-passed-requires t c =
    let same : frame c.push.new.self ≡ pushed (frame c.args.env.now) c.in-Some.object = c.push.ensures ∙ ap (λ (e : Frame). pushed e c.in-Some.object) c.loop-place.invariant.0 in
    let fits : EffectFitsWithin (frame c.push.new.self) c.args.rest.now c.args.body.now = subst (λ (e : Frame). EffectFitsWithin e c.args.rest.now c.args.body.now) (sym same) (room.effect-fits-one (frame c.args.env.now) c.in-Some.object c.args.param.now c.args.rest.now c.args.body.now c.requires.room) in
    ((let d = c.decreases in omega (arith, d)), (c.requires.world, (fits, subst (λ (e : Frame). IsPlain e c.args.body.now) (sym same) c.requires.plain)))

pub pass_over_of-loop-place-preserved : goal.pass_over_of-loop-place-preserved
pass_over_of-loop-place-preserved t c =
    let I = InType c.args.world.now.types.now c.args.world.now.objects.now in
    let v = c.args.env.now.values.items in
    let p = c.args.pass in
    let D = c.args.domain.now in
    let i = c.loop-place.place in
    let T : State → GroundAtom → ℕ → Type 0 = λ s g o. TouchesWithin I (atoms s) (of_adds p) c.args.rest.now c.args.body.now (v ++ o ∷ []) g in
    let R : State → GroundAtom → ℕ → Type 0 = λ s g. AtPlace c.args.domain.now (T s g) in
    let P : State → truth.State = λ s g. (j : ℕ) × (j < c.loop-place.place) × R s g j in
    let N : State → truth.State = λ s g. (j : ℕ) × (j < c.loop-place.place + 1) × R s g j in
    elim c.match-at.branch [
      | pass_over_of-in-Some+in_ok-passed w ↦ (
          let o = w.in-Some.object in
          let Q : State → truth.State = λ s g. T s g w.in-Some.object in
          let objects : w.push.new.self.values.items ≡ v ++ w.in-Some.object ∷ [] = ap (λ (f : Frame). f.objects) w.push.ensures ∙ ap (λ (f : Frame). f.objects ++ w.in-Some.object ∷ []) c.loop-place.invariant.0 in
          let more : (s : State) → Passes p (Q s) c.loop-place.self w.pass_over_within-passed.new.self = λ s. subst (λ u. Passes p (TouchesWithin I (atoms s) (of_adds p) c.args.rest.now c.args.body.now u) c.loop-place.self w.pass_over_within-passed.new.self) objects (w.in_ok-passed.ensures.passed s) in
          let kept : frame w.pop.new.self ≡ frame c.args.env.now = w.pop.ensures (frame c.loop-place.env) w.in-Some.object (w.pass_over_within-passed.ensures.kept ∙ w.push.ensures) ∙ c.loop-place.invariant.0 in
          let all : (s : State) → Passes p (N s) c.args.self.now w.pass_over_within-passed.new.self = λ s. laws.passes-then p (P s) (Q s) (N s) c.args.self.now c.loop-place.self w.pass_over_within-passed.new.self (λ g. cases.below-more (R s g) (Q s g) i (at_one D (T s g) i o (sym c.at.ensures ∙ w.in-Some.is))) (c.loop-place.invariant.1 s) (more s) in
          (ap frame w.env-is ∙ kept, subst (λ (u : State). (s : State) → Passes p (N s) c.args.self.now u) (sym w.self-is) all)
          )
      | pass_over_of-in_default w ↦ (
          let none : (s : State) (g : GroundAtom) → R s g c.loop-place.place → ⊥ = λ s g. at_none D (T s g) i (sym c.at.ensures ∙ w.in_default.is) in
          let all : (s : State) → Passes p (N s) c.args.self.now c.loop-place.self = λ s. laws.passes-same p (P s) (N s) c.args.self.now c.loop-place.self (λ g. cases.below-none (R s g) i (none s g)) (c.loop-place.invariant.1 s) in
          (ap frame w.env-is ∙ c.loop-place.invariant.0, subst (λ (u : State). (s : State) → Passes p (N s) c.args.self.now u) (sym w.self-is) all)
          )
    ]

pub pass_over_of-returns-clause-passed : goal.pass_over_of-returns-clause-passed
pass_over_of-returns-clause-passed t c s =
    let types = c.args.world.now.types.now in
    let objects = c.args.world.now.objects.now in
    let I = InType c.args.world.now.types.now c.args.world.now.objects.now in
    let v = c.args.env.now.values.items in
    let p = c.args.pass in
    let q = c.args.param.now in
    let rest = c.args.rest.now in
    let T : GroundAtom → ℕ → Type 0 = λ g o. TouchesWithin I (atoms s) (of_adds p) c.args.rest.now c.args.body.now (v ++ o ∷ []) g in
    let end : c.loop-place.place ≡ places c.args.domain.now = (let e = c.loop-place-test.false in let l = c.loop-place.auto.place-end in let n = c.len-place-end.ensures in omega (arith, e, l, n)) in
    laws.passes-same p (λ g. (i : ℕ) × (i < c.loop-place.place) × AtPlace c.args.domain.now (T g) i) (TouchesWithin I (atoms s) (of_adds p) (q ∷ c.args.rest.now) c.args.body.now v) c.args.self.now c.loop-place.self
    (λ g. within-domain I (atoms s) v (of_adds p) q rest c.args.body.now c.args.domain.now c.loop-place.place (length objects) end c.requires.domain (λ o i. in_type_within types objects q.ty o i) g) (c.loop-place.invariant.1 s)
