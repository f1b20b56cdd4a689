use Rattle.std.proofs.Common.{ℕ, ◌≡◌, ◌+◌, ◌<◌, ◌++◌, [], ◌∷◌, List, Bool, length, take, refl, OnOk, sym, subst, ap, ◌∙◌, true≢false, arith}
use Rattle.std.proofs.lemmas.List.{take_all}
use Rattle.std.proofs.lemmas.Result.{on_ok_weaker}
use Rattle.plan_model.specs.declared.terms.GroundAtom.{GroundAtom}
use Rattle.plan_model.specs.plan_meaning.Truth.{State, ground}
use Rattle.plan_model.proofs.PartsOf.{in_type_within}
use Rattle.problem_index.specs.Domains.{places}
use Rattle.ground_state.specs.Clauses.{IsInType}
use Rattle.ground_state.specs.Search.{Gathers, Touches, OneTouches, TouchesWithin}
use Rattle.ground_state.proofs.DomainLaws.{AtPlace, at_one, at_none}
use Rattle.ground_state.proofs.DomainCases.{within-domain}
use Rattle.ground_state.proofs.EffectSizes as sizes
use Rattle.ground_state.proofs.GatherCases as cases
use Rattle.state_history.specs.declared.desk.Desk.{Desk}
use Rattle.state_history.specs.declared.gather.Touched.{Touched}
use Rattle.state_history.specs.Flips.{states}
use Rattle.state_history.specs.Gathered.{side, GetsWithin}
use Rattle.state_history.proofs.GatherLaws.{made-put, gathers-Add, gathers-Delete}
use Rattle.state_history.proofs.gather.+gather.Goals as goal
use Rattle.state_history.proofs.gather.+gather.Goals.{gather_of-in-Some+in_ok-push+in_ok-gather_within, gather_of-in_default}

pub gather-returns-in-Add-clause-gathered : goal.gather-returns-in-Add-clause-gathered
gather-returns-in-Add-clause-gathered t c =
    let v = c.args.desk.now.values.items in
    let new : Touched = record { adds = c.put.new.self; deletes = c.args.into.now.deletes } in
    on_ok_weaker c.put.result (λ p. gathers-Add (IsInType c.args.world.now) (states c.args.flips.now c.args.flips.now.last) v c.args.eff.now c.in-Add.atom c.args.into.now new c.in-Add.is (made-put c.ground.result c.args.into.now.adds c.put.new.self (ground v c.in-Add.atom) p c.ground.ensures) refl) c.put.ensures.put

pub gather-returns-in-Delete-clause-gathered : goal.gather-returns-in-Delete-clause-gathered
gather-returns-in-Delete-clause-gathered t c =
    let v = c.args.desk.now.values.items in
    let new : Touched = record { adds = c.args.into.now.adds; deletes = c.put-in-Delete.new.self } in
    on_ok_weaker c.put-in-Delete.result (λ p. gathers-Delete (IsInType c.args.world.now) (states c.args.flips.now c.args.flips.now.last) v c.args.eff.now c.in-Delete.atom c.args.into.now new c.in-Delete.is (made-put c.ground-in-Delete.result c.args.into.now.deletes c.put-in-Delete.new.self (ground v c.in-Delete.atom) p c.ground-in-Delete.ensures) refl) c.put-in-Delete.ensures.put

pub gather-gather_each-requires : goal.gather-gather_each-requires
gather-gather_each-requires t c = ((let d = c.decreases in let l = sizes.falls-And c.args.eff.now c.in-And.parts c.as_slice.result.now c.in-And.is c.as_slice.ensures.items in omega (arith, d, l)), c.requires.world)

pub gather-gather_within-requires : goal.gather-gather_within-requires
gather-gather_within-requires t c = (
  (let d = c.decreases in let l = sizes.falls-Forall c.args.eff.now c.in-Forall.params c.as_slice-in-Forall.result.now c.in-Forall.body c.get.result.now c.in-Forall.is c.as_slice-in-Forall.ensures.items c.get.ensures.value in omega (arith, d, l)),
  c.requires.world,
)

pub gather-gather-requires : goal.gather-gather-requires
gather-gather-requires t c = (
  (let d = c.decreases in let l = sizes.falls-When c.args.eff.now c.in-When.condition c.in-When.body c.get-then-given.result.now c.in-When.is c.get-then-given.ensures.value in omega (arith, d, l)),
  c.requires.world,
)

pub gather-returns-then-given-clause-gathered : goal.gather-returns-then-given-clause-gathered
gather-returns-then-given-clause-gathered t c =
    let I = IsInType c.args.world.now in
    let S = states c.args.flips.now c.args.flips.now.last in
    let v = c.args.desk.now.values.items in
    let x = c.get-then-given.result.now in
    let given = c.in_ok-given-in-When.ensures in
    let told = given.truth c.args.flips.now.last (given.kept.within (omega arith)) (omega arith) in
    on_ok_weaker c.gather.result (λ h adds.
    cases.gathers-same (Touches I S adds x v) (Touches I S adds c.args.eff.now v) (side adds c.args.into.now) (side adds c.gather.new.into)
    (cases.touches-When I S v adds c.args.eff.now c.in-When.condition c.in-When.body x c.in-When.is c.get-then-given.ensures.value (told.0 c.if-given.true))
    (subst (λ (u : List ℕ). Gathers (Touches (IsInType c.args.world.now) (states c.args.flips.now c.args.flips.now.last) adds c.get-then-given.result.now u) (side adds c.args.into.now) (side adds c.gather.new.into)) given.kept.values (h adds))
    ) c.gather.ensures.gathered

pub gather-returns-else-given-clause-gathered : goal.gather-returns-else-given-clause-gathered
gather-returns-else-given-clause-gathered t c adds =
    let I = IsInType c.args.world.now in
    let S = states c.args.flips.now c.args.flips.now.last in
    let v = c.args.desk.now.values.items in
    let given = c.in_ok-given-in-When.ensures in
    let told = given.truth c.args.flips.now.last (given.kept.within (omega arith)) (omega arith) in
    cases.gathers-none (Touches I S adds c.args.eff.now v) (side adds c.args.into.now)
    (cases.touches-When-not I S v adds c.args.eff.now c.in-When.condition c.in-When.body c.in-When.is (λ u. true≢false (sym (told.1 u) ∙ c.if-given.false)))

pub gather-returns-in-And-clause-gathered : goal.gather-returns-in-And-clause-gathered
gather-returns-in-And-clause-gathered t c =
    let I = IsInType c.args.world.now in
    let S = states c.args.flips.now c.args.flips.now.last in
    let v = c.args.desk.now.values.items in
    on_ok_weaker c.gather_each.result (λ h adds.
    cases.gathers-same (OneTouches I S adds c.as_slice.result.now v) (Touches I S adds c.args.eff.now v) (side adds c.args.into.now) (side adds c.gather_each.new.into)
    (cases.touches-And I S v adds c.args.eff.now c.in-And.parts c.as_slice.result.now c.in-And.is c.as_slice.ensures.items) (h adds)
    ) c.gather_each.ensures.gathered

pub gather-returns-in-Forall-clause-gathered : goal.gather-returns-in-Forall-clause-gathered
gather-returns-in-Forall-clause-gathered t c =
    let I = IsInType c.args.world.now in
    let S = states c.args.flips.now c.args.flips.now.last in
    let v = c.args.desk.now.values.items in
    on_ok_weaker c.gather_within.result (λ h adds.
    cases.gathers-same (TouchesWithin I S adds c.as_slice-in-Forall.result.now c.get.result.now v) (Touches I S adds c.args.eff.now v) (side adds c.args.into.now) (side adds c.gather_within.new.into)
    (cases.touches-Forall I S v adds c.args.eff.now c.in-Forall.params c.as_slice-in-Forall.result.now c.in-Forall.body c.get.result.now c.in-Forall.is c.as_slice-in-Forall.ensures.items c.get.ensures.value) (h adds)
    ) c.gather_within.ensures.gathered

pub gather_each-gather-requires : goal.gather_each-gather-requires
gather_each-gather-requires t c = ((let d = c.decreases in let l = sizes.falls-part c.args.parts.now c.loop-part.part-index c.part-item.result c.part-item.result c.loop-part-test.true c.part-item.is in omega (arith, d, l)), c.requires.world)

pub gather_each-loop-part-preserved : goal.gather_each-loop-part-preserved
gather_each-loop-part-preserved t c =
    let I = IsInType c.args.world.now in
    let S = states c.args.flips.now c.args.flips.now.last in
    let v = c.args.desk.now.values.items in
    let i = c.loop-part.part-index in
    let e = c.part-item.result in
    record {
      kept = c.in_ok-gather.ensures.kept ∙ c.loop-part.invariant.kept;
      gathered = λ adds. cases.gathers-then (OneTouches I S adds (take i c.args.parts.now) v) (Touches I S adds e v) (OneTouches I S adds (take (i + 1) c.args.parts.now) v) (side adds c.args.into.now) (side adds c.loop-part.into) (side adds c.gather.new.into)
          (cases.touches-next I S v adds c.args.parts.now i e c.loop-part-test.true c.part-item.is) (c.loop-part.invariant.gathered adds)
          (subst (λ (u : List ℕ). Gathers (Touches (IsInType c.args.world.now) (states c.args.flips.now c.args.flips.now.last) adds c.part-item.result u) (side adds c.loop-part.into) (side adds c.gather.new.into)) c.loop-part.invariant.kept (c.in_ok-gather.ensures.gathered adds));
    }

pub gather_each-returns-clause-gathered : goal.gather_each-returns-clause-gathered
gather_each-returns-clause-gathered t c adds =
    subst (λ es. Gathers (OneTouches (IsInType c.args.world.now) (states c.args.flips.now c.args.flips.now.last) adds es c.args.desk.now.values.items) (side adds c.args.into.now) (side adds c.loop-part.into)) (take_all c.loop-part.part-index c.args.parts.now c.loop-part-test.false) (c.loop-part.invariant.gathered adds)

pub gather_within-gather-requires : goal.gather_within-gather-requires
gather_within-gather-requires t c = ((let d = c.decreases in omega (arith, d)), c.requires.world)

pub gather_within-gather_of-requires : goal.gather_within-gather_of-requires
gather_within-gather_of-requires t c = ((let d = c.decreases in let e = ap length c.in-Some.ensures.cases.0 in omega (arith, d, e)), (c.requires.world, c.in-Some-domain.ensures))

pub gather_within-gather_in_parts-requires : goal.gather_within-gather_in_parts-requires
gather_within-gather_in_parts-requires t c = ((let d = c.decreases in let e = ap length c.in-Some.ensures.cases.0 in omega (arith, d, e)), c.requires.world)

pub gather_within-returns-in_default-clause-gathered : goal.gather_within-returns-in_default-clause-gathered
gather_within-returns-in_default-clause-gathered t c =
    let I = IsInType c.args.world.now in
    let S = states c.args.flips.now c.args.flips.now.last in
    let v = c.args.desk.now.values.items in
    on_ok_weaker c.gather.result (λ h adds.
    cases.gathers-same (Touches I S adds c.args.body.now v) (TouchesWithin I S adds c.args.params.now c.args.body.now v) (side adds c.args.into.now) (side adds c.gather.new.into)
    (cases.within-none I S v adds c.args.params.now c.args.body.now c.in_default.ensures.cases) (h adds)
    ) c.gather.ensures.gathered

pub gather_within-returns-in-Some-domain-clause-gathered : goal.gather_within-returns-in-Some-domain-clause-gathered
gather_within-returns-in-Some-domain-clause-gathered t c = subst (λ ps. OnOk c.gather_of.result (GetsWithin c.args.world.now c.args.flips.now c.args.desk.now.values.items c.args.into.now c.gather_of.new.into ps c.args.body.now)) (sym c.in-Some.ensures.cases.0) c.gather_of.ensures.gathered

pub gather_within-returns-in-None-clause-gathered : goal.gather_within-returns-in-None-clause-gathered
gather_within-returns-in-None-clause-gathered t c = subst (λ ps. OnOk c.gather_in_parts.result (GetsWithin c.args.world.now c.args.flips.now c.args.desk.now.values.items c.args.into.now c.gather_in_parts.new.into ps c.args.body.now)) (sym c.in-Some.ensures.cases.0) c.gather_in_parts.ensures.gathered

pub gather_in_parts-gather_of-requires : goal.gather_in_parts-gather_of-requires
gather_in_parts-gather_of-requires t c = ((let d = c.decreases in omega (arith, d)), (c.requires.world, c.among-domain.ensures c.args.world.now.types.now c.args.param.now.ty c.new-parts.ensures))

pub gather_of-gather_within-requires : goal.gather_of-gather_within-requires
gather_of-gather_within-requires t c = ((let d = c.decreases in omega (arith, d)), c.requires.world)

pub gather_of-loop-place-preserved : goal.gather_of-loop-place-preserved
gather_of-loop-place-preserved t c =
    let I = IsInType c.args.world.now in
    let S = states c.args.flips.now c.args.flips.now.last in
    let v = c.args.desk.now.values.items in
    let D = c.args.domain.now in
    let i = c.loop-place.place in
    let inv = c.loop-place.invariant in
    let T : Bool → GroundAtom → ℕ → Type 0 = λ adds g o. TouchesWithin (IsInType c.args.world.now) (states c.args.flips.now c.args.flips.now.last) adds c.args.rest.now c.args.body.now (c.args.desk.now.values.items ++ o ∷ []) g in
    let R : Bool → GroundAtom → ℕ → Type 0 = λ adds g. AtPlace c.args.domain.now (T adds g) in
    let P : Bool → State = λ adds g. (j : ℕ) × (j < c.loop-place.place) × R adds g j in
    let N : Bool → State = λ adds g. (j : ℕ) × (j < c.loop-place.place + 1) × R adds g j in
    elim c.match-at.branch [
      | gather_of-in-Some+in_ok-push+in_ok-gather_within w ↦ (
          let o = w.in-Some.object in
          let Q : Bool → State = λ adds g. T adds g w.in-Some.object in
          let kept = w.pop.ensures c.loop-place.desk.values.items o (w.in_ok-gather_within.ensures.kept ∙ w.in_ok-push.ensures.values) in
          let objects : w.push.new.self.values.items ≡ c.args.desk.now.values.items ++ w.in-Some.object ∷ [] = w.in_ok-push.ensures.values ∙ ap (λ u. u ++ w.in-Some.object ∷ []) c.loop-place.invariant.kept in
          let more : (adds : Bool) → Gathers (Q adds) (side adds c.loop-place.into) (side adds w.gather_within.new.into) = λ adds. subst (λ u. Gathers (TouchesWithin (IsInType c.args.world.now) (states c.args.flips.now c.args.flips.now.last) adds c.args.rest.now c.args.body.now u) (side adds c.loop-place.into) (side adds w.gather_within.new.into)) objects (w.in_ok-gather_within.ensures.gathered adds) in
          let all : (adds : Bool) → Gathers (N adds) (side adds c.args.into.now) (side adds w.gather_within.new.into) = λ adds. cases.gathers-then (P adds) (Q adds) (N adds) (side adds c.args.into.now) (side adds c.loop-place.into) (side adds w.gather_within.new.into) (λ g. cases.below-more (R adds g) (Q adds g) i (at_one D (T adds g) i o (sym c.at.ensures ∙ w.in-Some.is))) (inv.gathered adds) (more adds) in
          record {
            kept = ap (λ (d : Desk). d.values.items) w.desk-is ∙ kept.values ∙ inv.kept;
            gathered = subst (λ (into : Touched). (adds : Bool) → Gathers (N adds) (side adds c.args.into.now) (side adds into)) (sym w.into-is) all;
          }
          )
      | gather_of-in_default w ↦ (
          let none : (adds : Bool) (g : GroundAtom) → R adds g c.loop-place.place → ⊥ = λ adds g. at_none D (T adds g) i (sym c.at.ensures ∙ w.in_default.is) in
          let all : (adds : Bool) → Gathers (N adds) (side adds c.args.into.now) (side adds c.loop-place.into) = λ adds. cases.gathers-same (P adds) (N adds) (side adds c.args.into.now) (side adds c.loop-place.into) (λ g. cases.below-none (R adds g) i (none adds g)) (inv.gathered adds) in
          record {
            kept = ap (λ (d : Desk). d.values.items) w.desk-is ∙ inv.kept;
            gathered = subst (λ (into : Touched). (adds : Bool) → Gathers (N adds) (side adds c.args.into.now) (side adds into)) (sym w.into-is) all;
          }
          )
    ]

pub gather_of-returns-clause-gathered : goal.gather_of-returns-clause-gathered
gather_of-returns-clause-gathered t c adds =
    let types = c.args.world.now.types.now in
    let objects = c.args.world.now.objects.now in
    let I = IsInType c.args.world.now in
    let S = states c.args.flips.now c.args.flips.now.last in
    let v = c.args.desk.now.values.items in
    let p = c.args.param.now in
    let T : GroundAtom → ℕ → Type 0 = λ g o. TouchesWithin (IsInType c.args.world.now) (states c.args.flips.now c.args.flips.now.last) adds c.args.rest.now c.args.body.now (c.args.desk.now.values.items ++ o ∷ []) g in
    let end : c.loop-place.place ≡ places c.args.domain.now = (let e = c.loop-place-test.false in let l = c.loop-place.auto.place-end in let n = c.len-place-end.ensures in omega (arith, e, l, n)) in
    cases.gathers-same (λ g. (i : ℕ) × (i < c.loop-place.place) × AtPlace c.args.domain.now (T g) i) (TouchesWithin I S adds (p ∷ c.args.rest.now) c.args.body.now v) (side adds c.args.into.now) (side adds c.loop-place.into)
    (λ g. within-domain I S v adds p c.args.rest.now c.args.body.now c.args.domain.now c.loop-place.place (length objects) end c.requires.domain (λ o i. in_type_within types objects p.ty o i) g) (c.loop-place.invariant.gathered adds)
