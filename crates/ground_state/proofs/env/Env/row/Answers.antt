use Rattle.std.proofs.Common.{rules, ◌^◌, ℕ, ◌≡◌, ◌+◌, ◌*◌, ◌-◌, ◌<◌, ◌≤◌, ◌++◌, [], ◌∷◌, length, get_or, sym, ◌∙◌, arith}
use Rattle.std.proofs.lemmas.List.{get_or-map, length-map}
use Rattle.std.proofs.lemmas.Grind.{common_steps}
use Rattle.plan_model.specs.plan_meaning.Truth.{value_of, values_of}
use Rattle.plan_model.proofs.NumberLaws.{next_in_row}
use Rattle.ground_state.proofs.env.Env.row.Goals as goal

pub loop-i-preserved : goal.loop-i-preserved
loop-i-preserved c =
    let v : ℕ → _ = λ x. c.args.self.now.values.items ++ x ∷ [] in
    let l : 0 < c.loop-i.i = let t = c.loop-i-test.true in omega arith in
    let k : c.loop-i.i - 1 < length c.args.terms.now = let a = c.loop-i.auto.i in omega (arith, l, a) in
    let m : (x : ℕ) → c.loop-i.i ≤ length (values_of (v x) c.args.terms.now) = λ x. (let a = c.loop-i.auto.i in let e = length-map c.args.terms.now (value_of (v x)) in omega (arith, a, e)) in
    let at : (x : ℕ) → c.digit-digit.result.first + c.digit-digit.result.step * x ≡ get_or (values_of (v x) c.args.terms.now) (c.loop-i.i - 1) 0 =
    λ x. sym (c.digit-digit.ensures.value x) ∙ sym (get_or-map (value_of (v x)) c.args.terms.now (c.loop-i.i - 1) _ 0 k) in
    let digits = c.if-digit-count.false in
    let fits = c.if-first-step.false in
    let room : c.args.numbers.room < 2 ^ 32 = search rules in (
      λ x n. next_in_row c.args.numbers.most c.args.numbers.room (values_of (v x) c.args.terms.now) c.loop-i.i x c.args.count c.loop-i.first c.loop-i.step c.digit-digit.result.first c.digit-digit.result.step
          l (m x) n (at x) digits (omega (arith, fits)) (c.loop-i.invariant.0 x n),
      (let f = c.if-first-room.false in omega (arith, f, room)),
      (let f = c.if-step-room.false in omega (arith, f, room)),
      omega (arith, fits, room),
    )

pub loop-i-init : goal.loop-i-init
loop-i-init c = grind (arith, common_steps)
