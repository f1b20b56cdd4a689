use Rattle.std.proofs.Common.{ℕ, ◌≡◌, ◌<◌, ◌++◌, not, Bool, true, false, [], ◌∷◌, Some, refl, ap, sym, subst, ◌∙◌, arith}
use Rattle.std.specs.Prelude.{slice_index_or, None, unwrap_or}
use Rattle.std.specs.Cmp.{booleans_Decides}
use Rattle.std.proofs.lemmas.Bool.Decides.{not_from_Decides}
use Rattle.plan_model.specs.plan_meaning.Truth.{values_of}
use Rattle.problem_index.specs.Domains.{places, at}
use Rattle.ground_state.specs.Notes.{noted_at, holds}
use Rattle.ground_state.proofs.Found.{below-next}
use Rattle.ground_state.proofs.DomainLaws.{same_object, at_none}
use Rattle.plan_model.proofs.NumberLaws.{row_within}
use Rattle.ground_state.proofs.notes.Notes.finds.Goals as goal
use Rattle.ground_state.proofs.notes.Notes.finds.Goals.{in-Some+else-truth-wanted, in_default}

other : (x y : Bool) → (x ≡ y → ⊥) → x ≡ not y
other true true n = absurd (n refl)
other true false n = refl
other false true n = refl
other false false n = absurd (n refl)

pub at-requires-in-Some : goal.at-requires-in-Some
at-requires-in-Some c =
    let l = c.requires.below c.in-Some.object (c.loop-place.place, (let l = c.loop-place-test.true in let n = c.len-place-end.ensures in omega (arith, l, n)), sym c.at.ensures ∙ c.in-Some.is) in
    row_within c.in_ok-row.row.first c.in_ok-row.row.step c.in-Some.object c.args.count l c.in_ok-row.ensures.small

pub returns-then-truth-wanted : goal.returns-then-truth-wanted
returns-then-truth-wanted c =
    let notes = c.args.self.now in
    let o = c.in-Some.object in
    let args = values_of (c.args.env.now.values.items ++ c.in-Some.object ∷ []) c.args.terms.now in
    let here : (i : ℕ) × (i < places c.args.domain.now) × (at c.args.domain.now i ≡ Some c.in-Some.object) = (c.loop-place.place, (let l = c.loop-place-test.true in let n = c.len-place-end.ensures in omega (arith, l, n)), sym c.at.ensures ∙ c.in-Some.is) in
    let is : holds c.args.self.now (values_of (c.args.env.now.values.items ++ c.in-Some.object ∷ []) c.args.terms.now) ≡ c.unwrap_or-truth.result =
    ap (λ n. unwrap_or (noted_at notes args n) false) (c.in_ok-row.ensures.at o (c.requires.below o here))
    ∙ ap (λ n. unwrap_or (slice_index_or notes.near.items n None) false) (sym c.at-in-Some.ensures)
    ∙ ap (λ note. unwrap_or note false) (sym c.at-in-Some-2.ensures) ∙ sym c.unwrap_or-truth.ensures in
    let wanted : c.unwrap_or-truth.result ≡ c.args.wanted = (booleans_Decides c.unwrap_or-truth.result c.args.wanted).0 c.if-truth-wanted.true in
    (o, here, is ∙ wanted)

pub loop-place-preserved : goal.loop-place-preserved
loop-place-preserved c =
    let notes = c.args.self.now in
    let v = c.args.env.now.values.items in
    let H : ℕ → Type 0 = λ x. holds c.args.self.now (values_of (c.args.env.now.values.items ++ x ∷ []) c.args.terms.now) ≡ not c.args.wanted in
    let P : ℕ → Type 0 = λ i. (x : ℕ) → at c.args.domain.now i ≡ Some x → H x in
    let last : P c.loop-place.place = elim c.match-at.branch [
      | in-Some+else-truth-wanted w ↦ (
          let o = w.in-Some.object in
          let args = values_of (c.args.env.now.values.items ++ w.in-Some.object ∷ []) c.args.terms.now in
          let stands : at c.args.domain.now c.loop-place.place ≡ Some w.in-Some.object = sym c.at.ensures ∙ w.in-Some.is in
          let below = c.requires.below w.in-Some.object (c.loop-place.place, (let l = c.loop-place-test.true in let n = c.len-place-end.ensures in omega (arith, l, n)), stands) in
          let is : holds c.args.self.now (values_of (c.args.env.now.values.items ++ w.in-Some.object ∷ []) c.args.terms.now) ≡ w.unwrap_or-truth.result =
          ap (λ n. unwrap_or (noted_at notes args n) false) (c.in_ok-row.ensures.at o below)
          ∙ ap (λ n. unwrap_or (slice_index_or notes.near.items n None) false) (sym w.at-in-Some.ensures)
          ∙ ap (λ note. unwrap_or note false) (sym w.at-in-Some-2.ensures) ∙ sym w.unwrap_or-truth.ensures in
          let one : H w.in-Some.object = is ∙ other w.unwrap_or-truth.result c.args.wanted (not_from_Decides _ (booleans_Decides w.unwrap_or-truth.result c.args.wanted) w.if-truth-wanted.false) in
          λ x e. subst H (same_object c.args.domain.now c.loop-place.place x w.in-Some.object e stands) one
          )
      | in_default w ↦ λ x e. absurd (at_none c.args.domain.now (λ y. y ≡ x) c.loop-place.place (sym c.at.ensures ∙ w.in_default.is) (x, e, refl))
    ] in
    below-next P c.loop-place.place c.loop-place.invariant last
