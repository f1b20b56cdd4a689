use Rattle.std.proofs.Common.{◌<◌, ◌≤◌, ◌^◌, length, refl, ◌∙◌, arith}
use Rattle.plan_model.proofs.NumberLaws.{ends_there}
use Rattle.state_history.proofs.gaps.number_of.Goals as goal

pub returns-in_err-number : goal.returns-in_err-number
returns-in_err-number c =
    let l : 0 < c.loop-i.i = let t = c.loop-i-test.true in omega arith in
    let m : c.loop-i.i ≤ length c.args.key.now = let a = c.loop-i.auto.i in omega arith in
    c.from_residual.ensures ∙ ends_there c.args.most (2 ^ 64) c.args.key.now c.loop-i.i _ c.loop-i.number l m refl c.loop-i.invariant c.in_err-number.ensures
