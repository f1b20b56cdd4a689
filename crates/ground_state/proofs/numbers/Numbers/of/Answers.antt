use Rattle.std.proofs.Common.{◌<◌, ◌≤◌, length, refl, ◌∙◌, arith}
use Rattle.plan_model.proofs.NumberLaws.{next_number, ends_there}
use Rattle.ground_state.proofs.numbers.Numbers.of.Goals as goal

pub returns-in_err-number-clause-number : goal.returns-in_err-number-clause-number
returns-in_err-number-clause-number c =
    let l : 0 < c.loop-i.i = let t = c.loop-i-test.true in omega arith in
    let m : c.loop-i.i ≤ length c.args.objects.now = let a = c.loop-i.auto.i in omega arith in
    c.from_residual.ensures ∙ ends_there c.args.self.most c.args.self.room c.args.objects.now c.loop-i.i _ c.loop-i.number l m refl c.loop-i.invariant.0 c.in_err-number.ensures.number

pub loop-i-preserved : goal.loop-i-preserved
loop-i-preserved c =
    let l : 0 < c.loop-i.i = let t = c.loop-i-test.true in omega arith in
    let m : c.loop-i.i ≤ length c.args.objects.now = let a = c.loop-i.auto.i in omega arith in
    (next_number c.args.self.most c.args.self.room c.args.objects.now c.loop-i.i _ c.loop-i.number l m refl c.loop-i.invariant.0 c.in_ok-number.number c.in_ok-number.ensures.number, c.in_ok-number.ensures.small)
