use Rattle.std.proofs.Common.{ℕ, ◌≡◌, ◌<◌, ◌↔◌, ◌++◌, not, IsTrue, List, [], ◌∷◌, length, Some, refl, sym, subst, ap, ◌∙◌, append_assoc, true≢false, arith}
use Rattle.std.proofs.lemmas.Bool.{eqb-true}
use Rattle.std.proofs.lemmas.Grind.{common_steps}
use Rattle.plan_model.specs.Typing.{InType}
use Rattle.plan_model.specs.plan_meaning.Truth.{IsTrueIn, AreTyped}
use Rattle.ground_state.specs.Frames.{Frame, frame, pushed}
use Rattle.ground_state.specs.Room.{fits, Fits, FitsWithin}
use Rattle.ground_state.specs.Search.{Is}
use Rattle.ground_state.proofs.DomainLaws.{same_object, at_none, type_below}
use Rattle.ground_state.proofs.Found.{below-next, each-typed}
use Rattle.problem_index.specs.Domains.{at}
use Rattle.ground_state.specs.States.{atoms}
use Rattle.ground_state.proofs.Sizes as sizes
use Rattle.ground_state.proofs.RoomEquations as room
use Rattle.ground_state.proofs.TruthCases as truth
use Rattle.ground_state.proofs.truth.+holds_in.Goals as goal
use Rattle.ground_state.proofs.truth.+holds_in.Goals.{is_found_of-in-Some-at+else-found, is_found_of-in_default-at}

pub holds_in-has_atom-requires : goal.holds_in-has_atom-requires
holds_in-has_atom-requires t c = room.fits-Holds (frame c.args.env.now) c.args.f.now c.in-Holds.atom c.in-Holds.is c.requires.room

pub holds_in-holds_in-requires : goal.holds_in-holds_in-requires
holds_in-holds_in-requires t c = (
  (let d = c.decreases in let l = sizes.falls-Not c.args.f.now c.in-Not.part c.get.result.now c.in-Not.is c.get.ensures.value in omega (arith, d, l)),
  (c.requires.world, room.fits-Not (frame c.args.env.now) c.args.f.now c.in-Not.part c.get.result.now c.in-Not.is c.get.ensures.value c.requires.room),
)

pub holds_in-is_among-requires : goal.holds_in-is_among-requires
holds_in-is_among-requires t c = (
  (let d = c.decreases in let l = sizes.falls-And c.args.f.now c.in-And.parts c.as_slice.result.now c.in-And.is c.as_slice.ensures.items in omega (arith, d, l)),
  (c.requires.world, room.fits-And (frame c.args.env.now) c.args.f.now c.in-And.parts c.as_slice.result.now c.in-And.is c.as_slice.ensures.items c.requires.room),
)

pub holds_in-is_among-requires-in-Or : goal.holds_in-is_among-requires-in-Or
holds_in-is_among-requires-in-Or t c = (
  (let d = c.decreases in let l = sizes.falls-Or c.args.f.now c.in-Or.parts c.as_slice-in-Or.result.now c.in-Or.is c.as_slice-in-Or.ensures.items in omega (arith, d, l)),
  (c.requires.world, room.fits-Or (frame c.args.env.now) c.args.f.now c.in-Or.parts c.as_slice-in-Or.result.now c.in-Or.is c.as_slice-in-Or.ensures.items c.requires.room),
)

pub holds_in-holds_in-requires-in-Imply : goal.holds_in-holds_in-requires-in-Imply
holds_in-holds_in-requires-in-Imply t c = (
  (let d = c.decreases in let l = sizes.falls-premise c.args.f.now c.in-Imply.premise c.in-Imply.conclusion c.get-in-Imply.result.now c.in-Imply.is c.get-in-Imply.ensures.value in omega (arith, d, l)),
  (c.requires.world, room.fits-premise (frame c.args.env.now) c.args.f.now c.in-Imply.premise c.in-Imply.conclusion c.get-in-Imply.result.now c.in-Imply.is c.get-in-Imply.ensures.value c.requires.room),
)

pub holds_in-holds_in-requires-then-holds_in : goal.holds_in-holds_in-requires-then-holds_in
holds_in-holds_in-requires-then-holds_in t c = (
  (let d = c.decreases in let l = sizes.falls-conclusion c.args.f.now c.in-Imply.premise c.in-Imply.conclusion c.get-then-holds_in.result.now c.in-Imply.is c.get-then-holds_in.ensures.value in omega (arith, d, l)),
  (
    c.requires.world,
    subst (λ e. Fits e c.get-then-holds_in.result.now) (sym c.holds_in-in-Imply.ensures.kept)
        (room.fits-conclusion (frame c.args.env.now) c.args.f.now c.in-Imply.premise c.in-Imply.conclusion c.get-then-holds_in.result.now c.in-Imply.is c.get-then-holds_in.ensures.value c.requires.room),
  ),
)

pub holds_in-returns-then-holds_in-clause-truth : goal.holds_in-returns-then-holds_in-clause-truth
holds_in-returns-then-holds_in-clause-truth t c =
    let I = InType c.args.world.now.types.now c.args.world.now.objects.now in
    let S = atoms c.args.s.now in
    truth.is-Imply I S c.args.env.now.values.items c.args.f.now c.in-Imply.premise c.in-Imply.conclusion c.get-in-Imply.result.now c.get-then-holds_in.result.now c.holds_in-then-holds_in.result
    c.in-Imply.is c.get-in-Imply.ensures.value c.get-then-holds_in.ensures.value
    (c.holds_in-in-Imply.ensures.truth.0 c.if-holds_in.true)
    (subst (λ (e : Frame). IsTrue c.holds_in-then-holds_in.result ↔ IsTrueIn I S c.get-then-holds_in.result.now e.objects) c.holds_in-in-Imply.ensures.kept c.holds_in-then-holds_in.ensures.truth)

pub holds_in-is_found-requires : goal.holds_in-is_found-requires
holds_in-is_found-requires t c = (
  (let d = c.decreases in let l = sizes.falls-Forall c.args.f.now c.in-Forall.params c.as_slice-in-Forall.result.now c.in-Forall.body c.get-in-Forall.result.now c.in-Forall.is c.as_slice-in-Forall.ensures.items c.get-in-Forall.ensures.value in omega (arith, d, l)),
  (c.requires.world, room.fits-Forall (frame c.args.env.now) c.args.f.now c.in-Forall.params c.as_slice-in-Forall.result.now c.in-Forall.body c.get-in-Forall.result.now c.in-Forall.is c.as_slice-in-Forall.ensures.items c.get-in-Forall.ensures.value c.requires.room),
)

pub holds_in-is_found-requires-in-Exists : goal.holds_in-is_found-requires-in-Exists
holds_in-is_found-requires-in-Exists t c = (
  (let d = c.decreases in let l = sizes.falls-Exists c.args.f.now c.in-Exists.params c.as_slice-in-Exists.result.now c.in-Exists.body c.get-in-Exists.result.now c.in-Exists.is c.as_slice-in-Exists.ensures.items c.get-in-Exists.ensures.value in omega (arith, d, l)),
  (c.requires.world, room.fits-Exists (frame c.args.env.now) c.args.f.now c.in-Exists.params c.as_slice-in-Exists.result.now c.in-Exists.body c.get-in-Exists.result.now c.in-Exists.is c.as_slice-in-Exists.ensures.items c.get-in-Exists.ensures.value c.requires.room),
)

pub holds_in-returns-in-Holds-clause-truth : goal.holds_in-returns-in-Holds-clause-truth
holds_in-returns-in-Holds-clause-truth t c = truth.is-Holds (InType c.args.world.now.types.now c.args.world.now.objects.now) (atoms c.args.s.now) c.args.env.now.values.items c.args.f.now c.in-Holds.atom c.has_atom.result c.in-Holds.is (truth.as-has c.has_atom.ensures.truth)

pub holds_in-returns-in-Equal-clause-truth : goal.holds_in-returns-in-Equal-clause-truth
holds_in-returns-in-Equal-clause-truth t c =
    truth.is-Equal (InType c.args.world.now.types.now c.args.world.now.objects.now) (atoms c.args.s.now) c.args.env.now.values.items c.args.f.now c.in-Equal.left c.in-Equal.right c.value.result c.value-in-Equal.result c.in-Equal.is c.value.ensures c.value-in-Equal.ensures

pub holds_in-returns-in-Not-clause-truth : goal.holds_in-returns-in-Not-clause-truth
holds_in-returns-in-Not-clause-truth t c = truth.is-Not (InType c.args.world.now.types.now c.args.world.now.objects.now) (atoms c.args.s.now) c.args.env.now.values.items c.args.f.now c.in-Not.part c.get.result.now c.holds_in.result c.in-Not.is c.get.ensures.value c.holds_in.ensures.truth

pub holds_in-returns-in-And-clause-truth : goal.holds_in-returns-in-And-clause-truth
holds_in-returns-in-And-clause-truth t c =
    truth.is-And (InType c.args.world.now.types.now c.args.world.now.objects.now) (atoms c.args.s.now) c.args.env.now.values.items c.args.f.now c.in-And.parts c.as_slice.result.now c.is_among.result c.in-And.is c.as_slice.ensures.items c.is_among.ensures.answer

pub holds_in-returns-in-Or-clause-truth : goal.holds_in-returns-in-Or-clause-truth
holds_in-returns-in-Or-clause-truth t c =
    truth.is-Or (InType c.args.world.now.types.now c.args.world.now.objects.now) (atoms c.args.s.now) c.args.env.now.values.items c.args.f.now c.in-Or.parts c.as_slice-in-Or.result.now c.is_among-in-Or.result c.in-Or.is c.as_slice-in-Or.ensures.items c.is_among-in-Or.ensures.answer

pub holds_in-returns-else-holds_in-clause-truth : goal.holds_in-returns-else-holds_in-clause-truth
holds_in-returns-else-holds_in-clause-truth t c =
    truth.is-Imply-empty (InType c.args.world.now.types.now c.args.world.now.objects.now) (atoms c.args.s.now) c.args.env.now.values.items c.args.f.now c.in-Imply.premise c.in-Imply.conclusion c.get-in-Imply.result.now c.in-Imply.is c.get-in-Imply.ensures.value
    (λ u. true≢false (sym (c.holds_in-in-Imply.ensures.truth.1 u) ∙ c.if-holds_in.false))

pub holds_in-returns-in-Forall-clause-truth : goal.holds_in-returns-in-Forall-clause-truth
holds_in-returns-in-Forall-clause-truth t c =
    truth.is-Forall (InType c.args.world.now.types.now c.args.world.now.objects.now) (atoms c.args.s.now) c.args.env.now.values.items c.args.f.now c.in-Forall.params c.as_slice-in-Forall.result.now c.in-Forall.body c.get-in-Forall.result.now c.is_found.result
    c.in-Forall.is c.as_slice-in-Forall.ensures.items c.get-in-Forall.ensures.value c.is_found.ensures.answer

pub holds_in-returns-in-Exists-clause-truth : goal.holds_in-returns-in-Exists-clause-truth
holds_in-returns-in-Exists-clause-truth t c =
    truth.is-Exists (InType c.args.world.now.types.now c.args.world.now.objects.now) (atoms c.args.s.now) c.args.env.now.values.items c.args.f.now c.in-Exists.params c.as_slice-in-Exists.result.now c.in-Exists.body c.get-in-Exists.result.now c.is_found-in-Exists.result
    c.in-Exists.is c.as_slice-in-Exists.ensures.items c.get-in-Exists.ensures.value c.is_found-in-Exists.ensures.answer

pub is_among-is_true-requires : goal.is_among-is_true-requires
is_among-is_true-requires t c = (
  (let d = c.decreases in let l = sizes.falls-part c.args.parts.now c.loop-part.part-index c.part-item.result c.part-item.result c.loop-part-test.true c.part-item.is in omega (arith, d, l)),
  (
    c.requires.world,
    subst (λ (e : Frame). Fits e c.part-item.result) (sym c.loop-part.invariant.0)
        (subst (Fits (frame c.args.env.now)) (sym c.part-item.is)
        (room.each-at (fits (frame c.args.env.now).room (frame c.args.env.now).arity) c.args.parts.now (length c.args.env.now.values.items) c.loop-part.part-index c.part-item.result c.loop-part-test.true c.requires.room)),
  ),
)

pub is_found_in_parts-is_found_of-requires : goal.is_found_in_parts-is_found_of-requires
is_found_in_parts-is_found_of-requires t c = ((let d = c.decreases in omega (arith, d)), (c.requires.world, (c.among-domain.ensures c.args.world.now.types.now c.args.param.now.ty c.new-parts.ensures, c.requires.room)))

pub is_found_of-is_literal_found-requires : goal.is_found_of-is_literal_found-requires
is_found_of-is_literal_found-requires t c = record { below = type_below c.args.world.now.types.now c.args.world.now.objects.now c.args.param.now.ty c.args.domain.now c.len-count.result c.len-count.ensures.length c.requires.domain }

pub is_found_of-returns-then-found-clause-kept : goal.is_found_of-returns-then-found-clause-kept
is_found_of-returns-then-found-clause-kept t c = c.pop.ensures (frame c.loop-place.env) c.in-Some-at.object (c.is_found-found.ensures.kept ∙ c.push.ensures) ∙ c.loop-place.invariant.0

pub is_found_of-returns-then-found-clause-answer : goal.is_found_of-returns-then-found-clause-answer
is_found_of-returns-then-found-clause-answer t c =
    let I = InType c.args.world.now.types.now c.args.world.now.objects.now in
    let S = atoms c.args.s.now in
    let v = c.args.env.now.values.items in
    let o = c.in-Some-at.object in
    let found = c.if-found.ensures.answer in
    let typed = (c.requires.domain o).0 (c.loop-place.place, (let l = c.loop-place-test.true in let n = c.len-place-end.ensures in omega (arith, l, n)), sym c.at.ensures ∙ c.in-Some-at.is) in
    let objects : c.push.new.self.values.items ≡ c.args.env.now.values.items ++ c.in-Some-at.object ∷ [] = ap (λ (f : Frame). f.objects) c.push.ensures ∙ ap (λ (f : Frame). f.objects ++ c.in-Some-at.object ∷ []) c.loop-place.invariant.0 in (
      o ∷ found.0,
      (typed, found.1),
      subst (λ u. Is c.args.wanted (IsTrueIn I S c.args.body.now u)) (ap (λ w. w ++ found.0) objects ∙ append_assoc v (o ∷ []) found.0) found.2,
    )

pub is_found_of-returns-in-Some-clause-answer : goal.is_found_of-returns-in-Some-clause-answer
is_found_of-returns-in-Some-clause-answer t c =
    let p = c.args.param.now in
    let one = truth.only-one (p ∷ c.args.rest.now) p c.args.rest.now refl (eqb-true (length c.args.rest.now) 0 (sym c.is_empty.ensures ∙ c.if-is_empty.true)) in
    truth.is-found-literal (InType c.args.world.now.types.now c.args.world.now.objects.now) c.args.domain.now c.args.s.now c.args.wanted c.args.body.now c.args.env.now.values.items c.in-Some.found p (p ∷ c.args.rest.now) one c.requires.domain c.in-Some.ensures

pub is_found_of-push-requires : goal.is_found_of-push-requires
is_found_of-push-requires t c = subst (λ (e : Frame). length e.objects < e.room) (sym c.loop-place.invariant.0) (room.room-for-one (frame c.args.env.now) c.args.param.now c.args.rest.now c.args.body.now c.requires.room)

pub is_found_of-is_found-found-requires : goal.is_found_of-is_found-found-requires
is_found_of-is_found-found-requires t c =
    let same : frame c.push.new.self ≡ pushed (frame c.args.env.now) c.in-Some-at.object = c.push.ensures ∙ ap (λ (e : Frame). pushed e c.in-Some-at.object) c.loop-place.invariant.0 in
    let fits : FitsWithin (frame c.push.new.self) c.args.rest.now c.args.body.now = subst (λ (e : Frame). FitsWithin e c.args.rest.now c.args.body.now) (sym same) (room.fits-one (frame c.args.env.now) c.in-Some-at.object c.args.param.now c.args.rest.now c.args.body.now c.requires.room) in
    ((let d = c.decreases in omega (arith, d)), (c.requires.world, fits))

pub is_found_of-loop-place-preserved : goal.is_found_of-loop-place-preserved
is_found_of-loop-place-preserved t c =
    let I = InType c.args.world.now.types.now c.args.world.now.objects.now in
    let S = atoms c.args.s.now in
    let i = c.loop-place.place in
    let P : ℕ → Type 0 = λ i. (o : ℕ) (os : List ℕ) → at c.args.domain.now i ≡ Some o → AreTyped I c.args.rest.now os → Is (not c.args.wanted) (IsTrueIn I S c.args.body.now ((c.args.env.now.values.items ++ o ∷ []) ++ os)) in
    let before : (i : ℕ) → i < c.loop-place.place → P i = λ i l o os e a. c.loop-place.invariant.1 i o os l e a in
    elim c.match-at.branch [
      | is_found_of-in-Some-at+else-found w ↦ (
          let kept : frame w.pop.new.self ≡ frame c.args.env.now = w.pop.ensures (frame c.loop-place.env) w.in-Some-at.object (w.is_found-found.ensures.kept ∙ w.push.ensures) ∙ c.loop-place.invariant.0 in
          let objects : w.push.new.self.values.items ≡ c.args.env.now.values.items ++ w.in-Some-at.object ∷ [] = ap (λ (f : Frame). f.objects) w.push.ensures ∙ ap (λ (f : Frame). f.objects ++ w.in-Some-at.object ∷ []) c.loop-place.invariant.0 in
          let one : (os : List ℕ) → AreTyped I c.args.rest.now os → Is (not c.args.wanted) (IsTrueIn I S c.args.body.now ((c.args.env.now.values.items ++ w.in-Some-at.object ∷ []) ++ os)) = λ os a. subst (λ v. Is (not c.args.wanted) (IsTrueIn I S c.args.body.now (v ++ os))) objects (w.if-found.ensures.answer os a) in
          let last : P c.loop-place.place = λ o os e a.
          let same : w.in-Some-at.object ≡ o = same_object c.args.domain.now c.loop-place.place o w.in-Some-at.object e (sym c.at.ensures ∙ w.in-Some-at.is) in
          subst (λ x. Is (not c.args.wanted) (IsTrueIn I S c.args.body.now ((c.args.env.now.values.items ++ x ∷ []) ++ os))) same (one os a) in
          (ap frame w.env-is ∙ kept, λ j o os l e a. below-next P i before last j l o os e a)
          )
      | is_found_of-in_default-at w ↦ (
          let last : P c.loop-place.place = λ o os e a. absurd (at_none c.args.domain.now (λ x. x ≡ o) c.loop-place.place (sym c.at.ensures ∙ w.in_default-at.is) (o, e, refl)) in
          (ap frame w.env-is ∙ c.loop-place.invariant.0, λ j o os l e a. below-next P i before last j l o os e a)
          )
    ]

pub is_found_of-returns-clause-answer : goal.is_found_of-returns-clause-answer
is_found_of-returns-clause-answer t c =
    let I = InType c.args.world.now.types.now c.args.world.now.objects.now in
    let S = atoms c.args.s.now in
    let P : List ℕ → Type 0 = λ v. Is (not c.args.wanted) (IsTrueIn I S c.args.body.now v) in
    let p = c.args.param.now in
    let each : (o : ℕ) (os : List ℕ) → I o p.ty → AreTyped I c.args.rest.now os → P ((c.args.env.now.values.items ++ o ∷ []) ++ os) =
    λ o os i a. (let m = (c.requires.domain o).1 i in c.loop-place.invariant.1 m.0 o os (let l = m.1 in let e = c.loop-place-test.false in let n = c.len-place-end.ensures in omega (arith, l, e, n)) m.2 a) in
    λ os a. each-typed I P p c.args.rest.now c.args.env.now.values.items each os a

pub is_true-has_atom-requires : goal.is_true-has_atom-requires
is_true-has_atom-requires t c = room.fits-Holds (frame c.args.env.now) c.args.f.now c.in-Holds.atom c.in-Holds.is c.requires.room

pub is_true-returns-in-Holds-clause-truth : goal.is_true-returns-in-Holds-clause-truth
is_true-returns-in-Holds-clause-truth t c = truth.is-Holds (InType c.args.world.now.types.now c.args.world.now.objects.now) (atoms c.args.s.now) c.args.env.now.values.items c.args.f.now c.in-Holds.atom c.has_atom.result c.in-Holds.is (truth.as-has c.has_atom.ensures.truth)

pub is_true-has_atom-requires-in-Holds-get : goal.is_true-has_atom-requires-in-Holds-get
is_true-has_atom-requires-in-Holds-get t c =
    let env = frame c.args.env.now in
    room.fits-Holds env c.get.result.now c.in-Holds-get.atom c.in-Holds-get.is (room.fits-Not env c.args.f.now c.in-Not.part c.get.result.now c.in-Not.is c.get.ensures.value c.requires.room)

pub is_true-returns-in-Holds-get : goal.is_true-returns-in-Holds-get
is_true-returns-in-Holds-get t c =
    let I = InType c.args.world.now.types.now c.args.world.now.objects.now in
    let S = atoms c.args.s.now in
    let v = c.args.env.now.values.items in
    let inside = truth.is-Holds I S v c.get.result.now c.in-Holds-get.atom c.has_atom-in-Holds-get.result c.in-Holds-get.is (truth.as-has c.has_atom-in-Holds-get.ensures.truth) in
    record { truth = truth.is-Not I S v c.args.f.now c.in-Not.part c.get.result.now c.has_atom-in-Holds-get.result c.in-Not.is c.get.ensures.value inside; kept = c.has_atom-in-Holds-get.ensures.kept }

pub is_among-loop-part-preserved : goal.is_among-loop-part-preserved
is_among-loop-part-preserved t c = grind (arith, common_steps)

pub is_found-returns-in_default-clause-answer : goal.is_found-returns-in_default-clause-answer
is_found-returns-in_default-clause-answer t c = grind (arith, common_steps)
