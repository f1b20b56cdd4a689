use Rattle.std.proofs.Common.{ℕ, ◌≡◌, ◌≤◌, ◌↔◌, ◌++◌, not, IsTrue, IfOk, List, [], ◌∷◌, length, get_or, inl, inr, Some, refl, sym, subst, ap, ◌∙◌, append_assoc, true≢false, arith}
use Rattle.std.proofs.lemmas.Bool.{cases_lt}
use Rattle.std.proofs.lemmas.List.{get_or_default}
use Rattle.std.proofs.lemmas.Result.{on_ok_weaker}
use Rattle.plan_model.specs.plan_meaning.Truth.{IsTrueIn, AreTyped}
use Rattle.problem_index.specs.Domains.{at}
use Rattle.ground_state.specs.Clauses.{IsInType}
use Rattle.ground_state.specs.Search.{Is, IsFound}
use Rattle.ground_state.proofs.DomainLaws.{same_object, at_none}
use Rattle.ground_state.proofs.Found.{each-typed}
use Rattle.ground_state.proofs.Sizes as sizes
use Rattle.ground_state.proofs.TruthCases as truth
use Rattle.state_history.specs.declared.desk.Desk.{Desk}
use Rattle.state_history.specs.Desks.{IsLater}
use Rattle.state_history.specs.Flips.{states}
use Rattle.state_history.specs.Looks.{IsTruth, Finds}
use Rattle.state_history.proofs.GapLaws.{same-truth, not-same-truth}
use Rattle.state_history.proofs.LookLaws.{later-same, later-twice, later-within, as-wanted, as-not-wanted, found-none, if-Holds, if-Or, if-Exists, if-Imply}
use Rattle.state_history.proofs.truth.+holds_in.Goals as goal
use Rattle.state_history.proofs.truth.+holds_in.Goals.{is_found_of-in-Some+in_ok-push+in_ok-found+else-found, is_found_of-in_default}

pub holds_in-holds_in-requires : goal.holds_in-holds_in-requires
holds_in-holds_in-requires t c = ((let d = c.decreases in let l = sizes.falls-Not c.args.f.now c.in-Not.part c.get.result.now c.in-Not.is c.get.ensures.value in omega (arith, d, l)), c.requires.world)

pub holds_in-is_among-requires : goal.holds_in-is_among-requires
holds_in-is_among-requires t c = ((let d = c.decreases in let l = sizes.falls-And c.args.f.now c.in-And.parts c.as_slice.result.now c.in-And.is c.as_slice.ensures.items in omega (arith, d, l)), c.requires.world)

pub holds_in-is_among-requires-in-Or : goal.holds_in-is_among-requires-in-Or
holds_in-is_among-requires-in-Or t c = ((let d = c.decreases in let l = sizes.falls-Or c.args.f.now c.in-Or.parts c.as_slice-in-Or.result.now c.in-Or.is c.as_slice-in-Or.ensures.items in omega (arith, d, l)), c.requires.world)

pub holds_in-holds_in-requires-in-Imply : goal.holds_in-holds_in-requires-in-Imply
holds_in-holds_in-requires-in-Imply t c = ((let d = c.decreases in let l = sizes.falls-premise c.args.f.now c.in-Imply.premise c.in-Imply.conclusion c.get-in-Imply.result.now c.in-Imply.is c.get-in-Imply.ensures.value in omega (arith, d, l)), c.requires.world)

pub holds_in-holds_in-requires-then-given : goal.holds_in-holds_in-requires-then-given
holds_in-holds_in-requires-then-given t c = ((let d = c.decreases in let l = sizes.falls-conclusion c.args.f.now c.in-Imply.premise c.in-Imply.conclusion c.get-then-given.result.now c.in-Imply.is c.get-then-given.ensures.value in omega (arith, d, l)), c.requires.world)

pub holds_in-is_found-requires : goal.holds_in-is_found-requires
holds_in-is_found-requires t c = (
  (let d = c.decreases in let l = sizes.falls-Forall c.args.f.now c.in-Forall.params c.as_slice-params.result.now c.in-Forall.body c.get-in-Forall.result.now c.in-Forall.is c.as_slice-params.ensures.items c.get-in-Forall.ensures.value in omega (arith, d, l)),
  c.requires.world,
)

pub holds_in-is_found-requires-in-Exists : goal.holds_in-is_found-requires-in-Exists
holds_in-is_found-requires-in-Exists t c = (
  (let d = c.decreases in let l = sizes.falls-Exists c.args.f.now c.in-Exists.params c.as_slice-in-Exists.result.now c.in-Exists.body c.get-in-Exists.result.now c.in-Exists.is c.as_slice-in-Exists.ensures.items c.get-in-Exists.ensures.value in omega (arith, d, l)),
  c.requires.world,
)

pub holds_in-returns-in-Holds-clause-truth : goal.holds_in-returns-in-Holds-clause-truth
holds_in-returns-in-Holds-clause-truth t c = if-Holds (IsInType c.args.world.now) c.args.flips.now c.args.desk.now.values.items c.args.gap c.args.f.now c.holds.new.self.since c.in-Holds.atom c.holds.result c.in-Holds.is c.holds.ensures.truth

pub holds_in-returns-in-Equal-clause-truth : goal.holds_in-returns-in-Equal-clause-truth
holds_in-returns-in-Equal-clause-truth t c j since before = truth.is-Equal (IsInType c.args.world.now) (states c.args.flips.now j) c.args.desk.now.values.items c.args.f.now c.in-Equal.left c.in-Equal.right c.value.result c.value-in-Equal.result c.in-Equal.is c.value.ensures c.value-in-Equal.ensures

pub holds_in-returns-in_ok-truth-in-Not-clause-truth : goal.holds_in-returns-in_ok-truth-in-Not-clause-truth
holds_in-returns-in_ok-truth-in-Not-clause-truth t c j since before = truth.is-Not (IsInType c.args.world.now) (states c.args.flips.now j) c.args.desk.now.values.items c.args.f.now c.in-Not.part c.get.result.now c.in_ok-truth-in-Not.truth c.in-Not.is c.get.ensures.value (c.in_ok-truth-in-Not.ensures.truth j since before)

pub holds_in-returns-in_ok-found-in-And-clause-truth : goal.holds_in-returns-in_ok-found-in-And-clause-truth
holds_in-returns-in_ok-found-in-And-clause-truth t c j since before =
    truth.is-And (IsInType c.args.world.now) (states c.args.flips.now j) c.args.desk.now.values.items c.args.f.now c.in-And.parts c.as_slice.result.now c.in_ok-found-in-And.found c.in-And.is c.as_slice.ensures.items (c.in_ok-found-in-And.ensures.answer j since before)

pub holds_in-returns-in-Or-clause-truth : goal.holds_in-returns-in-Or-clause-truth
holds_in-returns-in-Or-clause-truth t c = if-Or (IsInType c.args.world.now) c.args.flips.now c.args.desk.now.values.items c.args.gap c.args.f.now c.is_among-in-Or.new.desk.since c.in-Or.parts c.as_slice-in-Or.result.now c.is_among-in-Or.result c.in-Or.is c.as_slice-in-Or.ensures.items c.is_among-in-Or.ensures.answer

pub holds_in-returns-then-given-clause-truth : goal.holds_in-returns-then-given-clause-truth
holds_in-returns-then-given-clause-truth t c =
    let I = IsInType c.args.world.now in
    let given = c.in_ok-given-in-Imply.ensures in
    let first = c.holds_in-in-Imply.new.desk.since in
    if-Imply I c.args.flips.now c.args.desk.now.values.items c.args.gap c.args.f.now first c.holds_in-then-given.new.desk.since c.in-Imply.premise c.in-Imply.conclusion c.get-in-Imply.result.now c.get-then-given.result.now c.holds_in-then-given.result
    c.in-Imply.is c.get-in-Imply.ensures.value c.get-then-given.ensures.value
    (λ j l m. (given.truth j l m).0 c.if-given.true)
    (on_ok_weaker c.holds_in-then-given.result (λ k. k.later) c.holds_in-then-given.ensures.kept)
    (subst (λ (v : List ℕ). IfOk c.holds_in-then-given.result (IsTruth c.args.world.now c.args.flips.now v c.args.gap c.get-then-given.result.now c.holds_in-then-given.new.desk)) given.kept.values c.holds_in-then-given.ensures.truth)

pub holds_in-returns-else-given-clause-truth : goal.holds_in-returns-else-given-clause-truth
holds_in-returns-else-given-clause-truth t c j since before =
    truth.is-Imply-empty (IsInType c.args.world.now) (states c.args.flips.now j) c.args.desk.now.values.items c.args.f.now c.in-Imply.premise c.in-Imply.conclusion c.get-in-Imply.result.now c.in-Imply.is c.get-in-Imply.ensures.value
    (λ u. true≢false (sym ((c.in_ok-given-in-Imply.ensures.truth j since before).1 u) ∙ c.if-given.false))

pub holds_in-returns-in_ok-found-in-Forall-clause-truth : goal.holds_in-returns-in_ok-found-in-Forall-clause-truth
holds_in-returns-in_ok-found-in-Forall-clause-truth t c j since before =
    truth.is-Forall (IsInType c.args.world.now) (states c.args.flips.now j) c.args.desk.now.values.items c.args.f.now c.in-Forall.params c.as_slice-params.result.now c.in-Forall.body c.get-in-Forall.result.now c.in_ok-found-in-Forall.found
    c.in-Forall.is c.as_slice-params.ensures.items c.get-in-Forall.ensures.value (c.in_ok-found-in-Forall.ensures.answer j since before)

pub holds_in-returns-in-Exists-clause-truth : goal.holds_in-returns-in-Exists-clause-truth
holds_in-returns-in-Exists-clause-truth t c =
    if-Exists (IsInType c.args.world.now) c.args.flips.now c.args.desk.now.values.items c.args.gap c.args.f.now c.is_found-in-Exists.new.desk.since c.in-Exists.params c.as_slice-in-Exists.result.now c.in-Exists.body c.get-in-Exists.result.now c.is_found-in-Exists.result
    c.in-Exists.is c.as_slice-in-Exists.ensures.items c.get-in-Exists.ensures.value c.is_found-in-Exists.ensures.answer

pub is_among-holds_in-requires : goal.is_among-holds_in-requires
is_among-holds_in-requires t c = ((let d = c.decreases in let l = sizes.falls-part c.args.parts.now c.loop-part.part-index c.part-item.result c.part-item.result c.loop-part-test.true c.part-item.is in omega (arith, d, l)), c.requires.world)

pub is_among-loop-part-init : goal.is_among-loop-part-init
is_among-loop-part-init t c = record { later = later-same c.args.gap c.args.desk.now; without = λ k d l. absurd (omega (arith, l)) }

pub is_among-loop-part-preserved : goal.is_among-loop-part-preserved
is_among-loop-part-preserved t c =
    let I = IsInType c.args.world.now in
    let inv = c.loop-part.invariant in
    let now = c.in_ok-truth.ensures in
    let part = c.part-item.result in
    let i = c.loop-part.part-index in
    let more = now.kept.later in
    record {
      later = later-twice c.args.gap c.args.desk.now c.loop-part.desk c.holds_in.new.desk inv.later now.kept;
      without = λ k d l j since before. elim (cases_lt k i) [
        | inl m ↦ inv.without k d m j (omega (arith, more, since)) before
        | inr m ↦ (
            let here : i ≡ k = omega (arith, l, m) in
            let is : c.part-item.result ≡ get_or c.args.parts.now c.loop-part.part-index d = c.part-item.is ∙ get_or_default c.args.parts.now i part d c.loop-part-test.true in
            let told = subst (λ (v : List ℕ). IsTrue c.in_ok-truth.truth ↔ IsTrueIn (IsInType c.args.world.now) (states c.args.flips.now j) c.part-item.result v) inv.later.values (now.truth j since before) in
            subst (λ n. Is (not c.args.wanted) (IsTrueIn (IsInType c.args.world.now) (states c.args.flips.now j) (get_or c.args.parts.now n d) c.args.desk.now.values.items)) here
            (subst (λ g. Is (not c.args.wanted) (IsTrueIn (IsInType c.args.world.now) (states c.args.flips.now j) g c.args.desk.now.values.items)) is
            (as-not-wanted c.in_ok-truth.truth c.args.wanted (IsTrueIn I (states c.args.flips.now j) part c.args.desk.now.values.items) (not-same-truth c.in_ok-truth.truth c.args.wanted c.if-truth-wanted.false) told))
            )
      ];
    }

pub is_among-returns-then-truth-wanted-clause-answer : goal.is_among-returns-then-truth-wanted-clause-answer
is_among-returns-then-truth-wanted-clause-answer t c j since before =
    let told = subst (λ (v : List ℕ). IsTrue c.in_ok-truth.truth ↔ IsTrueIn (IsInType c.args.world.now) (states c.args.flips.now j) c.part-item.result v) c.loop-part.invariant.later.values (c.in_ok-truth.ensures.truth j since before) in (
      c.part-item.result,
      (c.loop-part.part-index, c.loop-part-test.true, sym c.part-item.is),
      as-wanted c.in_ok-truth.truth c.args.wanted (IsTrueIn (IsInType c.args.world.now) (states c.args.flips.now j) c.part-item.result c.args.desk.now.values.items) (same-truth c.in_ok-truth.truth c.args.wanted c.if-truth-wanted.true) told,
    )

pub is_among-returns-clause-answer : goal.is_among-returns-clause-answer
is_among-returns-clause-answer t c j since before f k =
    subst (λ g. Is (not c.args.wanted) (IsTrueIn (IsInType c.args.world.now) (states c.args.flips.now j) g c.args.desk.now.values.items)) k.2
    (c.loop-part.invariant.without k.0 f (let l = k.1 in let e = c.loop-part-test.false in omega (arith, l, e)) j since before)

pub is_found-holds_in-requires : goal.is_found-holds_in-requires
is_found-holds_in-requires t c = ((let d = c.decreases in omega (arith, d)), c.requires.world)

pub is_found-returns-in_default-clause-answer : goal.is_found-returns-in_default-clause-answer
is_found-returns-in_default-clause-answer t c j since before = found-none (IsInType c.args.world.now) (states c.args.flips.now j) c.args.wanted c.in_ok-truth.truth c.args.params.now c.args.body.now c.args.desk.now.values.items c.in_default.ensures.cases (c.in_ok-truth.ensures.truth j since before)

pub is_found-is_found_of-requires : goal.is_found-is_found_of-requires
is_found-is_found_of-requires t c = ((let d = c.decreases in let e = ap length c.in-Some.ensures.cases.0 in omega (arith, d, e)), (c.requires.world, c.in-Some-domain.ensures))

pub is_found-is_found_in_parts-requires : goal.is_found-is_found_in_parts-requires
is_found-is_found_in_parts-requires t c = ((let d = c.decreases in let e = ap length c.in-Some.ensures.cases.0 in omega (arith, d, e)), c.requires.world)

pub is_found-returns-in-Some-domain-clause-answer : goal.is_found-returns-in-Some-domain-clause-answer
is_found-returns-in-Some-domain-clause-answer t c = subst (λ ps. IfOk c.is_found_of.result (Finds c.args.world.now c.args.flips.now c.args.desk.now.values.items c.args.gap c.args.wanted ps c.args.body.now c.is_found_of.new.desk)) (sym c.in-Some.ensures.cases.0) c.is_found_of.ensures.answer

pub is_found-returns-in-None-clause-answer : goal.is_found-returns-in-None-clause-answer
is_found-returns-in-None-clause-answer t c = subst (λ ps. IfOk c.is_found_in_parts.result (Finds c.args.world.now c.args.flips.now c.args.desk.now.values.items c.args.gap c.args.wanted ps c.args.body.now c.is_found_in_parts.new.desk)) (sym c.in-Some.ensures.cases.0) c.is_found_in_parts.ensures.answer

pub is_found_in_parts-is_found_of-requires : goal.is_found_in_parts-is_found_of-requires
is_found_in_parts-is_found_of-requires t c = ((let d = c.decreases in omega (arith, d)), (c.requires.world, c.among-domain.ensures c.args.world.now.types.now c.args.param.now.ty c.new-parts.ensures))

pub is_found_of-is_found-requires : goal.is_found_of-is_found-requires
is_found_of-is_found-requires t c = ((let d = c.decreases in omega (arith, d)), c.requires.world)

pub is_found_of-returns-then-found-clause-answer : goal.is_found_of-returns-then-found-clause-answer
is_found_of-returns-then-found-clause-answer t c j since before =
    let I = IsInType c.args.world.now in
    let S = states c.args.flips.now j in
    let v = c.args.desk.now.values.items in
    let o = c.in-Some.object in
    let kept = c.pop.ensures c.loop-place.desk.values.items o (c.in_ok-found.ensures.kept.values ∙ c.in_ok-push.ensures.values) in
    let found = subst (λ b. IsFound (IsInType c.args.world.now) (states c.args.flips.now j) c.args.wanted b c.args.rest.now c.args.body.now c.push.new.self.values.items) c.if-found.true (c.in_ok-found.ensures.answer j (subst (λ n. n ≤ j) kept.since since) before) in
    let typed = (c.requires.domain o).0 (c.loop-place.place, (let l = c.loop-place-test.true in let n = c.len-place-end.ensures in omega (arith, l, n)), sym c.at.ensures ∙ c.in-Some.is) in
    let objects : c.push.new.self.values.items ≡ c.args.desk.now.values.items ++ c.in-Some.object ∷ [] = c.in_ok-push.ensures.values ∙ ap (λ u. u ++ c.in-Some.object ∷ []) c.loop-place.invariant.later.values in (
      o ∷ found.0,
      (typed, found.1),
      subst (λ u. Is c.args.wanted (IsTrueIn (IsInType c.args.world.now) (states c.args.flips.now j) c.args.body.now u)) (ap (λ w. w ++ found.0) objects ∙ append_assoc v (o ∷ []) found.0) found.2,
    )

pub is_found_of-returns-then-found-clause-kept : goal.is_found_of-returns-then-found-clause-kept
is_found_of-returns-then-found-clause-kept t c =
    let o = c.in-Some.object in
    let v = c.loop-place.desk.values.items in
    let put = c.in_ok-push.ensures in
    let kept = c.pop.ensures v o (c.in_ok-found.ensures.kept.values ∙ put.values) in
    later-twice c.args.gap c.args.desk.now c.loop-place.desk c.pop.new.self c.loop-place.invariant.later
    (later-within c.args.gap o c.loop-place.desk c.push.new.self c.is_found.new.desk c.pop.new.self v put.values put.since c.in_ok-found.ensures.kept refl kept.values kept.since)

pub is_found_of-loop-place-preserved : goal.is_found_of-loop-place-preserved
is_found_of-loop-place-preserved t c =
    let I = IsInType c.args.world.now in
    let i = c.loop-place.place in
    let inv = c.loop-place.invariant in
    elim c.match-at.branch [
      | is_found_of-in-Some+in_ok-push+in_ok-found+else-found w ↦ (
          let o = w.in-Some.object in
          let v = c.loop-place.desk.values.items in
          let put = w.in_ok-push.ensures in
          let kept = w.pop.ensures v o (w.in_ok-found.ensures.kept.values ∙ put.values) in
          let once : IsLater c.args.gap c.loop-place.desk w.pop.new.self = later-within c.args.gap o c.loop-place.desk w.push.new.self w.is_found.new.desk w.pop.new.self v put.values put.since w.in_ok-found.ensures.kept refl kept.values kept.since in
          let more = once.later in
          let objects : w.push.new.self.values.items ≡ c.args.desk.now.values.items ++ w.in-Some.object ∷ [] = w.in_ok-push.ensures.values ∙ ap (λ u. u ++ w.in-Some.object ∷ []) c.loop-place.invariant.later.values in
          let told : (j : ℕ) → w.pop.new.self.since ≤ j → j ≤ c.args.gap → (os : List ℕ) → AreTyped (IsInType c.args.world.now) c.args.rest.now os → Is (not c.args.wanted) (IsTrueIn (IsInType c.args.world.now) (states c.args.flips.now j) c.args.body.now ((c.args.desk.now.values.items ++ w.in-Some.object ∷ []) ++ os)) =
          λ j since before os a. subst (λ u. Is (not c.args.wanted) (IsTrueIn (IsInType c.args.world.now) (states c.args.flips.now j) c.args.body.now (u ++ os))) objects
          ((subst (λ b. IsFound (IsInType c.args.world.now) (states c.args.flips.now j) c.args.wanted b c.args.rest.now c.args.body.now w.push.new.self.values.items) w.if-found.false (w.in_ok-found.ensures.answer j (subst (λ n. n ≤ j) kept.since since) before)) os a) in
          record {
            later = subst (IsLater c.args.gap c.args.desk.now) (sym w.desk-is) (later-twice c.args.gap c.args.desk.now c.loop-place.desk w.pop.new.self inv.later once);
            without = λ k x os l e a j since before.
                let from : w.pop.new.self.since ≤ j = subst (λ (d : Desk). d.since ≤ j) w.desk-is since in
                elim (cases_lt k i) [
                  | inl m ↦ inv.without k x os m e a j (omega (arith, more, from)) before
                  | inr m ↦ (
                      let here : k ≡ c.loop-place.place = omega (arith, l, m) in
                      let same : w.in-Some.object ≡ x = same_object c.args.domain.now i x w.in-Some.object (subst (λ n. at c.args.domain.now n ≡ Some x) here e) (sym c.at.ensures ∙ w.in-Some.is) in
                      subst (λ y. Is (not c.args.wanted) (IsTrueIn (IsInType c.args.world.now) (states c.args.flips.now j) c.args.body.now ((c.args.desk.now.values.items ++ y ∷ []) ++ os))) same (told j from before os a)
                      )
                ];
          }
          )
      | is_found_of-in_default w ↦ record {
        later = subst (IsLater c.args.gap c.args.desk.now) (sym w.desk-is) inv.later;
        without = λ k x os l e a j since before.
            let from : c.loop-place.desk.since ≤ j = subst (λ (d : Desk). d.since ≤ j) w.desk-is since in
            elim (cases_lt k i) [
              | inl m ↦ inv.without k x os m e a j from before
              | inr m ↦ (
                  let here : k ≡ c.loop-place.place = omega (arith, l, m) in
                  absurd (at_none c.args.domain.now (λ y. y ≡ x) i (sym c.at.ensures ∙ w.in_default.is) (x, subst (λ n. at c.args.domain.now n ≡ Some x) here e, refl))
                  )
            ];
      }
    ]

pub is_found_of-returns-clause-answer : goal.is_found_of-returns-clause-answer
is_found_of-returns-clause-answer t c j since before =
    let I = IsInType c.args.world.now in
    let S = states c.args.flips.now j in
    let P : List ℕ → Type 0 = λ v. Is (not c.args.wanted) (IsTrueIn (IsInType c.args.world.now) (states c.args.flips.now j) c.args.body.now v) in
    let p = c.args.param.now in
    let each : (o : ℕ) (os : List ℕ) → IsInType c.args.world.now o c.args.param.now.ty → AreTyped (IsInType c.args.world.now) c.args.rest.now os → P ((c.args.desk.now.values.items ++ o ∷ []) ++ os) =
    λ o os i a. (let m = (c.requires.domain o).1 i in c.loop-place.invariant.without m.0 o os (let l = m.1 in let e = c.loop-place-test.false in let n = c.len-place-end.ensures in omega (arith, l, e, n)) m.2 a j since before) in
    λ os a. each-typed I P p c.args.rest.now c.args.desk.now.values.items each os a
