use Rattle.std.proofs.Common.{rules, ◌≡◌, ◌+◌, ◌≤◌, length, sum_by, take_all, ap, ◌∙◌, arith}
use Rattle.htn_cli.proofs.Actions.{check_count, counted_actions}
use Rattle.htn_cli.proofs.make.actions_of.Goals as goal

pub returns : goal.returns
returns c =
    let plans = c.args.compiled.now.methods in
    let end : length plans ≤ c.loop-plan.plan-index = search rules in
    let whole = ap (sum_by check_count) (take_all c.loop-plan.plan-index plans end) in
    let counted : c.loop-plan.checks ≡ sum_by check_count plans = c.loop-plan.invariant.counted ∙ whole in
    let methods = c.len.ensures.length in
    let actions = c.len-2.ensures.length in
    counted_actions c.args.compiled.now (c.len.result + c.loop-plan.checks + c.len-2.result) (omega (arith, counted, methods, actions))
