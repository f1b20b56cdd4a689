use Rattle.std.proofs.Common.{◌<◌, ◌≤◌, ◌^◌, length, ap, refl, ◌∙◌, arith}
use Rattle.std.specs.Option.{option_and_then}
use Rattle.plan_model.specs.Numbers.{with_digit}
use Rattle.plan_model.proofs.NumberLaws.{ends_there}
use Rattle.slot_encoder.proofs.single.number_of.Goals as goal

-- src/single.rt:72:18
pub returns-in_err-number : goal.returns-in_err-number
returns-in_err-number c =
    let args = c.args.args.now in
    let i = c.loop-i.i in
    let l : 0 < i = let t = c.loop-i-test.true in omega arith in
    let m : i ≤ length args = let a = c.loop-i.auto.i in omega (arith, a) in
    c.from_residual.ensures ∙ ap (option_and_then (with_digit c.args.most (2 ^ 64) c.args.predicate))
    (ends_there c.args.most (2 ^ 64) args i _ c.loop-i.number l m refl c.loop-i.invariant c.in_err-number.ensures)
