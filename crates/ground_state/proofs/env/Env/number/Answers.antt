use Rattle.std.proofs.Common.{◌≡◌, ◌-◌, ◌<◌, ◌≤◌, length, get_or, sym, ◌∙◌, arith}
use Rattle.std.proofs.lemmas.List.{get_or-map, length-map}
use Rattle.plan_model.specs.plan_meaning.Truth.{value_of, values_of}
use Rattle.plan_model.proofs.NumberLaws.{next_number, ends_there}
use Rattle.ground_state.proofs.env.Env.number.Goals as goal

pub returns-in_err-number : goal.returns-in_err-number
returns-in_err-number c =
    let v = c.args.self.now.values.items in
    let l : 0 < c.loop-i.i = let t = c.loop-i-test.true in omega arith in
    let k : c.loop-i.i - 1 < length c.args.terms.now = let a = c.loop-i.auto.i in omega (arith, l, a) in
    let m : c.loop-i.i ≤ length (values_of v c.args.terms.now) = let a = c.loop-i.auto.i in let e = length-map c.args.terms.now (value_of v) in omega (arith, a, e) in
    let at : c.value.result ≡ get_or (values_of v c.args.terms.now) (c.loop-i.i - 1) 0 = c.value.ensures ∙ sym (get_or-map (value_of v) c.args.terms.now (c.loop-i.i - 1) _ 0 k) in
    c.from_residual.ensures ∙ ends_there c.args.numbers.most c.args.numbers.room (values_of v c.args.terms.now) c.loop-i.i c.value.result c.loop-i.number l m at c.loop-i.invariant.0 c.in_err-number.ensures.number

pub loop-i-preserved : goal.loop-i-preserved
loop-i-preserved c =
    let v = c.args.self.now.values.items in
    let l : 0 < c.loop-i.i = let t = c.loop-i-test.true in omega arith in
    let k : c.loop-i.i - 1 < length c.args.terms.now = let a = c.loop-i.auto.i in omega (arith, l, a) in
    let m : c.loop-i.i ≤ length (values_of v c.args.terms.now) = let a = c.loop-i.auto.i in let e = length-map c.args.terms.now (value_of v) in omega (arith, a, e) in
    let at : c.value.result ≡ get_or (values_of v c.args.terms.now) (c.loop-i.i - 1) 0 = c.value.ensures ∙ sym (get_or-map (value_of v) c.args.terms.now (c.loop-i.i - 1) _ 0 k) in
    (next_number c.args.numbers.most c.args.numbers.room (values_of v c.args.terms.now) c.loop-i.i c.value.result c.loop-i.number l m at c.loop-i.invariant.0 c.in_ok-number.number c.in_ok-number.ensures.number, c.in_ok-number.ensures.small)
