use Rattle.std.proofs.Common.{ℕ, ◌≡◌, ◌+◌, ◌<◌, ◌++◌, [], ◌∷◌, Bool, length, take, refl, OnOk, sym, subst, ap, ◌∙◌, true≢false, arith}
use Rattle.std.proofs.lemmas.List.{take_all}
use Rattle.std.proofs.lemmas.Result.{on_ok_weaker}
use Rattle.plan_model.specs.declared.terms.GroundAtom.{GroundAtom}
use Rattle.plan_model.specs.Typing.{InType}
use Rattle.plan_model.proofs.PartsOf.{in_type_within}
use Rattle.ground_state.proofs.DomainLaws.{AtPlace, at_one, at_none}
use Rattle.plan_model.specs.plan_meaning.Truth.{State}
use Rattle.problem_index.specs.Domains.{places}
use Rattle.ground_state.specs.Frames.{Frame, frame, pushed}
use Rattle.ground_state.specs.Room.{effect_fits, EffectFits, EffectFitsWithin}
use Rattle.ground_state.specs.States.{atoms}
use Rattle.ground_state.specs.declared.atom_list.AtomLists.{AtomLists}
use Rattle.ground_state.specs.Clauses.{GetsWithin}
use Rattle.ground_state.specs.Search.{Gathers, Touches, OneTouches, TouchesWithin, side}
use Rattle.ground_state.proofs.EffectSizes as sizes
use Rattle.ground_state.proofs.RoomEquations as room
use Rattle.ground_state.proofs.GatherCases as cases
use Rattle.ground_state.proofs.DomainCases.{within-domain}
use Rattle.ground_state.proofs.gather.+gather.Goals as goal
use Rattle.ground_state.proofs.gather.+gather.Goals.{gather_of-in-Some+in_ok-gathered, gather_of-in_default}

pub gather-returns-in-Add-clause-gathered : goal.gather-returns-in-Add-clause-gathered
gather-returns-in-Add-clause-gathered t c =
    let I = InType c.args.world.now.types.now c.args.world.now.objects.now in
    let S = atoms c.args.s.now in
    on_ok_weaker c.put.result (λ p. cases.gathers-Add I S c.args.env.now.values.items c.args.eff.now c.in-Add.atom c.in-Add.is c.args.into.now (record { adds = c.put.new.self; deletes = c.args.into.now.deletes }) p refl) c.put.ensures.put

pub gather-returns-in-Delete-clause-gathered : goal.gather-returns-in-Delete-clause-gathered
gather-returns-in-Delete-clause-gathered t c =
    let I = InType c.args.world.now.types.now c.args.world.now.objects.now in
    let S = atoms c.args.s.now in
    on_ok_weaker c.put-in-Delete.result (λ p. cases.gathers-Delete I S c.args.env.now.values.items c.args.eff.now c.in-Delete.atom c.in-Delete.is c.args.into.now (record { adds = c.args.into.now.adds; deletes = c.put-in-Delete.new.self }) p refl) c.put-in-Delete.ensures.put

pub gather-gather_each-requires : goal.gather-gather_each-requires
gather-gather_each-requires t c = (
  let d = c.decreases in
      let l = sizes.falls-And c.args.eff.now c.in-And.parts c.as_slice.result.now c.in-And.is c.as_slice.ensures.items in
      omega (arith, d, l),
  (c.requires.world, room.fits-All (frame c.args.env.now) c.args.eff.now c.in-And.parts c.as_slice.result.now c.in-And.is c.as_slice.ensures.items c.requires.room),
)

pub gather-gather_within-requires : goal.gather-gather_within-requires
gather-gather_within-requires t c = (
  let d = c.decreases in
      let l = sizes.falls-Forall c.args.eff.now c.in-Forall.params c.as_slice-in-Forall.result.now c.in-Forall.body c.get.result.now c.in-Forall.is c.as_slice-in-Forall.ensures.items c.get.ensures.value in
      omega (arith, d, l),
  (c.requires.world, room.fits-Each (frame c.args.env.now) c.args.eff.now c.in-Forall.params c.as_slice-in-Forall.result.now c.in-Forall.body c.get.result.now c.in-Forall.is c.as_slice-in-Forall.ensures.items c.get.ensures.value c.requires.room),
)

pub gather-is_true-requires-clause-room : goal.gather-is_true-requires-clause-room
gather-is_true-requires-clause-room t c = room.fits-condition (frame c.args.env.now) c.args.eff.now c.in-When.condition c.in-When.body c.in-When.is c.requires.room

pub gather-gather-requires : goal.gather-gather-requires
gather-gather-requires t c = (
  let d = c.decreases in
      let l = sizes.falls-When c.args.eff.now c.in-When.condition c.in-When.body c.get-then-is_true.result.now c.in-When.is c.get-then-is_true.ensures.value in
      omega (arith, d, l),
  (c.requires.world, subst (λ e. EffectFits e c.get-then-is_true.result.now) (sym c.is_true.ensures.kept) (room.fits-When (frame c.args.env.now) c.args.eff.now c.in-When.condition c.in-When.body c.get-then-is_true.result.now c.in-When.is c.get-then-is_true.ensures.value c.requires.room)),
)

pub gather-returns-then-is_true-clause-gathered : goal.gather-returns-then-is_true-clause-gathered
gather-returns-then-is_true-clause-gathered t c =
    let I = InType c.args.world.now.types.now c.args.world.now.objects.now in
    let S = atoms c.args.s.now in
    let v = c.args.env.now.values.items in
    let x = c.get-then-is_true.result.now in
    on_ok_weaker c.gather.result (λ h adds.
    cases.gathers-same (Touches I S adds x v) (Touches I S adds c.args.eff.now v) (side adds c.args.into.now) (side adds c.gather.new.into)
    (cases.touches-When I S v adds c.args.eff.now c.in-When.condition c.in-When.body x c.in-When.is c.get-then-is_true.ensures.value (c.is_true.ensures.truth.0 c.if-is_true.true))
    (subst (λ (e : Frame). Gathers (Touches I S adds x e.objects) (side adds c.args.into.now) (side adds c.gather.new.into)) c.is_true.ensures.kept (h adds))
    ) c.gather.ensures.gathered

pub gather-returns-in-And-clause-gathered : goal.gather-returns-in-And-clause-gathered
gather-returns-in-And-clause-gathered t c =
    let I = InType c.args.world.now.types.now c.args.world.now.objects.now in
    let S = atoms c.args.s.now in
    let v = c.args.env.now.values.items in
    on_ok_weaker c.gather_each.result (λ h adds.
    cases.gathers-same (OneTouches I S adds c.as_slice.result.now v) (Touches I S adds c.args.eff.now v) (side adds c.args.into.now) (side adds c.gather_each.new.into)
    (cases.touches-And I S v adds c.args.eff.now c.in-And.parts c.as_slice.result.now c.in-And.is c.as_slice.ensures.items) (h adds)
    ) c.gather_each.ensures.gathered

pub gather-returns-in-Forall-clause-gathered : goal.gather-returns-in-Forall-clause-gathered
gather-returns-in-Forall-clause-gathered t c =
    let I = InType c.args.world.now.types.now c.args.world.now.objects.now in
    let S = atoms c.args.s.now in
    let v = c.args.env.now.values.items in
    on_ok_weaker c.gather_within.result (λ h adds.
    cases.gathers-same (TouchesWithin I S adds c.as_slice-in-Forall.result.now c.get.result.now v) (Touches I S adds c.args.eff.now v) (side adds c.args.into.now) (side adds c.gather_within.new.into)
    (cases.touches-Forall I S v adds c.args.eff.now c.in-Forall.params c.as_slice-in-Forall.result.now c.in-Forall.body c.get.result.now c.in-Forall.is c.as_slice-in-Forall.ensures.items c.get.ensures.value) (h adds)
    ) c.gather_within.ensures.gathered

pub gather-returns-else-is_true-clause-gathered : goal.gather-returns-else-is_true-clause-gathered
gather-returns-else-is_true-clause-gathered t c adds =
    let I = InType c.args.world.now.types.now c.args.world.now.objects.now in
    let S = atoms c.args.s.now in
    let v = c.args.env.now.values.items in
    cases.gathers-none (Touches I S adds c.args.eff.now v) (side adds c.args.into.now)
    (cases.touches-When-not I S v adds c.args.eff.now c.in-When.condition c.in-When.body c.in-When.is (λ u. true≢false (sym (c.is_true.ensures.truth.1 u) ∙ c.if-is_true.false)))

pub gather_each-gather-requires : goal.gather_each-gather-requires
gather_each-gather-requires t c = (
  let d = c.decreases in
      let l = sizes.falls-part c.args.parts.now c.loop-part.part-index c.part-item.result c.part-item.result c.loop-part-test.true c.part-item.is in
      omega (arith, d, l),
  (
    c.requires.world,
    subst (λ (e : Frame). EffectFits e c.part-item.result) (sym c.loop-part.invariant.0)
        (subst (EffectFits (frame c.args.env.now)) (sym c.part-item.is)
        (room.each-at (effect_fits (frame c.args.env.now).room (frame c.args.env.now).arity) c.args.parts.now (length c.args.env.now.values.items) c.loop-part.part-index c.part-item.result c.loop-part-test.true c.requires.room)),
  ),
)

pub gather_each-loop-part-preserved : goal.gather_each-loop-part-preserved
gather_each-loop-part-preserved t c =
    let I = InType c.args.world.now.types.now c.args.world.now.objects.now in
    let S = atoms c.args.s.now in
    let v = c.args.env.now.values.items in
    let i = c.loop-part.part-index in
    let e = c.part-item.result in (
      c.in_ok-gather.ensures.kept ∙ c.loop-part.invariant.0,
      λ adds. cases.gathers-then (OneTouches I S adds (take i c.args.parts.now) v) (Touches I S adds e v) (OneTouches I S adds (take (i + 1) c.args.parts.now) v) (side adds c.args.into.now) (side adds c.loop-part.into) (side adds c.gather.new.into)
          (cases.touches-next I S v adds c.args.parts.now i e c.loop-part-test.true c.part-item.is) (c.loop-part.invariant.1 adds)
          (subst (λ (f : Frame). Gathers (Touches I S adds e f.objects) (side adds c.loop-part.into) (side adds c.gather.new.into)) c.loop-part.invariant.0 (c.in_ok-gather.ensures.gathered adds)),
    )

pub gather_each-returns-clause-gathered : goal.gather_each-returns-clause-gathered
gather_each-returns-clause-gathered t c adds =
    let I = InType c.args.world.now.types.now c.args.world.now.objects.now in
    let S = atoms c.args.s.now in
    subst (λ es. Gathers (OneTouches I S adds es c.args.env.now.values.items) (side adds c.args.into.now) (side adds c.loop-part.into)) (take_all c.loop-part.part-index c.args.parts.now c.loop-part-test.false) (c.loop-part.invariant.1 adds)

pub gather_within-returns-in_default-clause-gathered : goal.gather_within-returns-in_default-clause-gathered
gather_within-returns-in_default-clause-gathered t c =
    let I = InType c.args.world.now.types.now c.args.world.now.objects.now in
    let S = atoms c.args.s.now in
    let v = c.args.env.now.values.items in
    on_ok_weaker c.gather.result (λ h adds.
    cases.gathers-same (Touches I S adds c.args.body.now v) (TouchesWithin I S adds c.args.params.now c.args.body.now v) (side adds c.args.into.now) (side adds c.gather.new.into)
    (cases.within-none I S v adds c.args.params.now c.args.body.now c.in_default.ensures.cases) (h adds)
    ) c.gather.ensures.gathered

pub gather_within-returns-in-Some-domain-clause-gathered : goal.gather_within-returns-in-Some-domain-clause-gathered
gather_within-returns-in-Some-domain-clause-gathered t c = subst (λ ps. OnOk c.gather_of.result (GetsWithin c.args.world.now c.args.s.now ps c.args.body.now c.args.env.now c.args.into.now c.gather_of.new.into)) (sym c.in-Some.ensures.cases.0) c.gather_of.ensures.gathered

pub gather_within-returns-in-None-clause-gathered : goal.gather_within-returns-in-None-clause-gathered
gather_within-returns-in-None-clause-gathered t c = subst (λ ps. OnOk c.gather_in_parts.result (GetsWithin c.args.world.now c.args.s.now ps c.args.body.now c.args.env.now c.args.into.now c.gather_in_parts.new.into)) (sym c.in-Some.ensures.cases.0) c.gather_in_parts.ensures.gathered

pub gather_in_parts-gather_of-requires : goal.gather_in_parts-gather_of-requires
gather_in_parts-gather_of-requires t c = ((let d = c.decreases in omega (arith, d)), (c.requires.world, (c.among-domain.ensures c.args.world.now.types.now c.args.param.now.ty c.new-parts.ensures, c.requires.room)))

pub gather_of-returns-in_err-gathered-clause-kept : goal.gather_of-returns-in_err-gathered-clause-kept
gather_of-returns-in_err-gathered-clause-kept t c = c.pop.ensures (frame c.loop-place.env) c.in-Some.object (c.gather_within-gathered.ensures.kept ∙ c.push.ensures) ∙ c.loop-place.invariant.0

pub gather_of-push-requires : goal.gather_of-push-requires
gather_of-push-requires t c = subst (λ (e : Frame). length e.objects < e.room) (sym c.loop-place.invariant.0) (room.room-for-one-effect (frame c.args.env.now) c.args.param.now c.args.rest.now c.args.body.now c.requires.room)

pub gather_of-gather_within-gathered-requires : goal.gather_of-gather_within-gathered-requires
gather_of-gather_within-gathered-requires t c =
    let same : frame c.push.new.self ≡ pushed (frame c.args.env.now) c.in-Some.object = c.push.ensures ∙ ap (λ (e : Frame). pushed e c.in-Some.object) c.loop-place.invariant.0 in
    let fits : EffectFitsWithin (frame c.push.new.self) c.args.rest.now c.args.body.now = subst (λ (e : Frame). EffectFitsWithin e c.args.rest.now c.args.body.now) (sym same) (room.effect-fits-one (frame c.args.env.now) c.in-Some.object c.args.param.now c.args.rest.now c.args.body.now c.requires.room) in
    ((let d = c.decreases in omega (arith, d)), (c.requires.world, fits))

pub gather_of-loop-place-preserved : goal.gather_of-loop-place-preserved
gather_of-loop-place-preserved t c =
    let I = InType c.args.world.now.types.now c.args.world.now.objects.now in
    let S = atoms c.args.s.now in
    let v = c.args.env.now.values.items in
    let D = c.args.domain.now in
    let i = c.loop-place.place in
    let T : Bool → GroundAtom → ℕ → Type 0 = λ adds g o. TouchesWithin I S adds c.args.rest.now c.args.body.now (v ++ o ∷ []) g in
    let R : Bool → GroundAtom → ℕ → Type 0 = λ adds g. AtPlace c.args.domain.now (T adds g) in
    let P : Bool → State = λ adds g. (j : ℕ) × (j < c.loop-place.place) × R adds g j in
    let N : Bool → State = λ adds g. (j : ℕ) × (j < c.loop-place.place + 1) × R adds g j in
    elim c.match-at.branch [
      | gather_of-in-Some+in_ok-gathered w ↦ (
          let o = w.in-Some.object in
          let Q : Bool → State = λ adds g. T adds g w.in-Some.object in
          let objects : w.push.new.self.values.items ≡ v ++ w.in-Some.object ∷ [] = ap (λ (f : Frame). f.objects) w.push.ensures ∙ ap (λ (f : Frame). f.objects ++ w.in-Some.object ∷ []) c.loop-place.invariant.0 in
          let more : (adds : Bool) → Gathers (Q adds) (side adds c.loop-place.into) (side adds w.gather_within-gathered.new.into) = λ adds. subst (λ u. Gathers (TouchesWithin I S adds c.args.rest.now c.args.body.now u) (side adds c.loop-place.into) (side adds w.gather_within-gathered.new.into)) objects (w.in_ok-gathered.ensures.gathered adds) in
          let kept : frame w.pop.new.self ≡ frame c.args.env.now = w.pop.ensures (frame c.loop-place.env) w.in-Some.object (w.gather_within-gathered.ensures.kept ∙ w.push.ensures) ∙ c.loop-place.invariant.0 in
          let all : (adds : Bool) → Gathers (N adds) (side adds c.args.into.now) (side adds w.gather_within-gathered.new.into) = λ adds. cases.gathers-then (P adds) (Q adds) (N adds) (side adds c.args.into.now) (side adds c.loop-place.into) (side adds w.gather_within-gathered.new.into) (λ g. cases.below-more (R adds g) (Q adds g) i (at_one D (T adds g) i o (sym c.at.ensures ∙ w.in-Some.is))) (c.loop-place.invariant.1 adds) (more adds) in
          (ap frame w.env-is ∙ kept, subst (λ (into : AtomLists). (adds : Bool) → Gathers (N adds) (side adds c.args.into.now) (side adds into)) (sym w.into-is) all)
          )
      | gather_of-in_default w ↦ (
          let none : (adds : Bool) (g : GroundAtom) → R adds g c.loop-place.place → ⊥ = λ adds g. at_none D (T adds g) i (sym c.at.ensures ∙ w.in_default.is) in
          let all : (adds : Bool) → Gathers (N adds) (side adds c.args.into.now) (side adds c.loop-place.into) = λ adds. cases.gathers-same (P adds) (N adds) (side adds c.args.into.now) (side adds c.loop-place.into) (λ g. cases.below-none (R adds g) i (none adds g)) (c.loop-place.invariant.1 adds) in
          (ap frame w.env-is ∙ c.loop-place.invariant.0, subst (λ (into : AtomLists). (adds : Bool) → Gathers (N adds) (side adds c.args.into.now) (side adds into)) (sym w.into-is) all)
          )
    ]

pub gather_of-returns-clause-gathered : goal.gather_of-returns-clause-gathered
gather_of-returns-clause-gathered t c adds =
    let types = c.args.world.now.types.now in
    let objects = c.args.world.now.objects.now in
    let I = InType c.args.world.now.types.now c.args.world.now.objects.now in
    let S = atoms c.args.s.now in
    let v = c.args.env.now.values.items in
    let p = c.args.param.now in
    let rest = c.args.rest.now in
    let T : GroundAtom → ℕ → Type 0 = λ g o. TouchesWithin I S adds c.args.rest.now c.args.body.now (v ++ o ∷ []) g in
    let end : c.loop-place.place ≡ places c.args.domain.now = (let e = c.loop-place-test.false in let l = c.loop-place.auto.place-end in let n = c.len-place-end.ensures in omega (arith, e, l, n)) in
    cases.gathers-same (λ g. (i : ℕ) × (i < c.loop-place.place) × AtPlace c.args.domain.now (T g) i) (TouchesWithin I S adds (p ∷ c.args.rest.now) c.args.body.now v) (side adds c.args.into.now) (side adds c.loop-place.into)
    (λ g. within-domain I S v adds p rest c.args.body.now c.args.domain.now c.loop-place.place (length objects) end c.requires.domain (λ o i. in_type_within types objects p.ty o i) g) (c.loop-place.invariant.1 adds)
