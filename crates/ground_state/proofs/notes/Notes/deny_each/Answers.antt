use Rattle.std.proofs.Common.{ℕ, ◌≡◌, ◌+◌, ◌<◌, ◌⊎◌, ◌↔◌, ◌++◌, [], ◌∷◌, false, List, Some, None, ap, sym, subst, ◌∙◌, arith}
use Rattle.std.specs.Prelude.{slice_index_or, unwrap_or}
use Rattle.std.proofs.lemmas.Grind.{common_steps}
use Rattle.plan_model.specs.plan_meaning.Truth.{values_of}
use Rattle.problem_index.specs.Domains.{at, places}
use Rattle.ground_state.specs.declared.notes.Notes.{Notes}
use Rattle.ground_state.specs.Numbers.{number_of}
use Rattle.ground_state.specs.Notes.{noted_at, holds, AreDenied, AreOf}
use Rattle.ground_state.proofs.GatherCases as cases
use Rattle.ground_state.proofs.DomainLaws.{AtPlace, at_one, at_none, at_some_place}
use Rattle.plan_model.proofs.NumberLaws.{row_within}
use Rattle.ground_state.proofs.Denials.{denied-same, denied-then, denied-none, denied-one, set-there}
use Rattle.ground_state.proofs.notes.Notes.deny_each.Goals as goal
use Rattle.ground_state.proofs.notes.Notes.deny_each.Goals.{in-Some-at+then-unwrap_or, in-Some-at+else-unwrap_or, in_default-at}

pub at-number-requires : goal.at-number-requires
at-number-requires c =
    let l = c.requires.below c.in-Some-at.object (c.loop-place.place, (let l = c.loop-place-test.true in let n = c.len-place-end.ensures in omega (arith, l, n)), sym c.at.ensures ∙ c.in-Some-at.is) in
    row_within c.in-Some.row.first c.in-Some.row.step c.in-Some-at.object c.args.count l c.in-Some.ensures.small

pub loop-place-preserved : goal.loop-place-preserved
loop-place-preserved c =
    let old = c.args.self.now in
    let notes = c.loop-place.self in
    let v = c.args.env.now.values.items in
    let D = c.args.domain.now in
    let i = c.loop-place.place in
    let T : List ℕ → ℕ → Type 0 = λ list x. list ≡ values_of (v ++ x ∷ []) c.args.terms.now in
    let R : List ℕ → ℕ → Type 0 = λ list. AtPlace c.args.domain.now (T list) in
    let P : List ℕ → Type 0 = λ list. (j : ℕ) × (j < c.loop-place.place) × R list j in
    let N : List ℕ → Type 0 = λ list. (j : ℕ) × (j < c.loop-place.place + 1) × R list j in
    elim c.match-at.branch [
      | in-Some-at+then-unwrap_or w ↦ (
          let o = w.in-Some-at.object in
          let args = values_of (v ++ w.in-Some-at.object ∷ []) c.args.terms.now in
          let stands : at c.args.domain.now c.loop-place.place ≡ Some w.in-Some-at.object = sym c.at.ensures ∙ w.in-Some-at.is in
          let below = c.requires.below w.in-Some-at.object (c.loop-place.place, (let l = c.loop-place-test.true in let n = c.len-place-end.ensures in omega (arith, l, n)), stands) in
          let number : number_of c.loop-place.self.numbers (values_of (v ++ w.in-Some-at.object ∷ []) c.args.terms.now) ≡ Some w.at-number.result =
          ap (λ numbers. number_of numbers args) c.loop-place.invariant.0 ∙ c.in-Some.ensures.at o below ∙ ap (λ n. Some n) (sym w.at-number.ensures) in
          let noted : unwrap_or (slice_index_or c.loop-place.self.near.items w.at-number.result None) false ≡ w.unwrap_or.result = ap (λ note. unwrap_or note false) (sym w.at-in-Some-at.ensures) ∙ sym w.unwrap_or.ensures in
          let Q : List ℕ → Type 0 = λ list. Unit {0} × (list ≡ values_of (v ++ w.in-Some-at.object ∷ []) c.args.terms.now) in
          let more : (list : List ℕ) → N list ↔ (P list ⊎ Q list) = λ list. cases.below-more (R list) (Q list) i (let one = at_one D (T list) i o stands in (λ r. (tt, one.0 r), λ q. one.1 q.1)) in (
            ap (λ (m : Notes). m.numbers) w.self-is ∙ c.loop-place.invariant.0,
            subst (AreDenied c.args.self.now N) (sym w.self-is)
                (denied-then P Q N old notes _ more c.loop-place.invariant.1 (denied-one (Unit {0}) notes _ args tt (set-there notes w.at-number.result (noted ∙ w.if-unwrap_or.true) args number))),
          )
          )
      | in-Some-at+else-unwrap_or w ↦ (
          let o = w.in-Some-at.object in
          let args = values_of (v ++ w.in-Some-at.object ∷ []) c.args.terms.now in
          let stands : at c.args.domain.now c.loop-place.place ≡ Some w.in-Some-at.object = sym c.at.ensures ∙ w.in-Some-at.is in
          let below = c.requires.below w.in-Some-at.object (c.loop-place.place, (let l = c.loop-place-test.true in let n = c.len-place-end.ensures in omega (arith, l, n)), stands) in
          let number : number_of c.loop-place.self.numbers (values_of (v ++ w.in-Some-at.object ∷ []) c.args.terms.now) ≡ Some w.at-number.result =
          ap (λ numbers. number_of numbers args) c.loop-place.invariant.0 ∙ c.in-Some.ensures.at o below ∙ ap (λ n. Some n) (sym w.at-number.ensures) in
          let noted : unwrap_or (slice_index_or c.loop-place.self.near.items w.at-number.result None) false ≡ w.unwrap_or.result = ap (λ note. unwrap_or note false) (sym w.at-in-Some-at.ensures) ∙ sym w.unwrap_or.ensures in
          let is : holds c.loop-place.self (values_of (v ++ w.in-Some-at.object ∷ []) c.args.terms.now) ≡ w.unwrap_or.result = ap (λ n. unwrap_or (noted_at notes args n) false) number ∙ noted in
          let Q : List ℕ → Type 0 = λ list. list ≡ values_of (v ++ w.in-Some-at.object ∷ []) c.args.terms.now in
          let more : (list : List ℕ) → N list ↔ (P list ⊎ Q list) = λ list. cases.below-more (R list) (Q list) i (at_one D (T list) i o stands) in (
            ap (λ (m : Notes). m.numbers) w.self-is ∙ c.loop-place.invariant.0,
            subst (AreDenied c.args.self.now N) (sym w.self-is)
                (denied-then P Q N old notes notes more c.loop-place.invariant.1 (denied-none Q notes (λ list q. ap (holds notes) q ∙ (is ∙ w.if-unwrap_or.false)))),
          )
          )
      | in_default-at w ↦ (
          let none : (list : List ℕ) → R list c.loop-place.place → ⊥ = λ list. at_none D (T list) i (sym c.at.ensures ∙ w.in_default-at.is) in (
            ap (λ (m : Notes). m.numbers) w.self-is ∙ c.loop-place.invariant.0,
            subst (AreDenied c.args.self.now N) (sym w.self-is) (denied-same P N old notes (λ list. cases.below-none (R list) i (none list)) c.loop-place.invariant.1),
          )
          )
    ]

pub returns : goal.returns
returns c =
    let v = c.args.env.now.values.items in
    let D = c.args.domain.now in
    let T : List ℕ → ℕ → Type 0 = λ list x. list ≡ values_of (v ++ x ∷ []) c.args.terms.now in
    let P : List ℕ → Type 0 = λ list. (i : ℕ) × (i < c.loop-place.place) × AtPlace c.args.domain.now (T list) i in
    let end : c.loop-place.place ≡ places c.args.domain.now = (let e = c.loop-place-test.false in let l = c.loop-place.auto.place-end in let n = c.len-place-end.ensures in omega (arith, e, l, n)) in
    denied-same P (AreOf D v c.args.terms.now) c.args.self.now c.loop-place.self (λ list. at_some_place D (T list) c.loop-place.place end) c.loop-place.invariant.1

pub index_mut-requires : goal.index_mut-requires
index_mut-requires c = grind (arith, common_steps)
