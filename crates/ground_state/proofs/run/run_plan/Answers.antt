use Rattle.std.proofs.Common.{take, subst}
use Rattle.ground_state.specs.Runs as spec
use Rattle.ground_state.proofs.RunLaws.{taken_more, fails_there, taken_all}
use Rattle.ground_state.proofs.run.run_plan.Goals as goal

pub returns-in-Some : goal.returns-in-Some
returns-in-Some c =
    let plan = c.args.plan.now in
    let step = c.index-plan-i.result in
    let i = c.loop-i.i in
    let fails = subst (spec.Takes step c.loop-i.run c.take_action.new.self) c.in-Some.is c.in_ok-why.ensures.taken in
    record { verdict = fails_there c.args.p.now plan i step c.loop-i-test.true c.index-plan-i.is c.in-Some.why (fails c.args.p.now (take i plan) c.loop-i.invariant) }

pub loop-i-preserved : goal.loop-i-preserved
loop-i-preserved c =
    let plan = c.args.plan.now in
    let step = c.index-plan-i.result in
    let i = c.loop-i.i in
    let taken = subst (spec.Takes step c.loop-i.run c.take_action.new.self) c.in_default.is c.in_ok-why.ensures.taken in
    taken_more c.args.p.now plan i step c.loop-i-test.true c.index-plan-i.is c.take_action.new.self (taken c.args.p.now (take i plan) c.loop-i.invariant)

pub returns : goal.returns
returns c =
    let p = c.args.p.now in
    let plan = c.args.plan.now in
    let reaches = subst (spec.Reaches c.loop-i.run) c.if-reaches_goal.false c.reaches_goal.ensures.goal in
    record { verdict = reaches p plan (taken_all p plan c.loop-i.i c.loop-i.run c.loop-i-test.false c.loop-i.invariant) }

pub returns-then-reaches_goal : goal.returns-then-reaches_goal
returns-then-reaches_goal c =
    let p = c.args.p.now in
    let plan = c.args.plan.now in
    let reaches = subst (spec.Reaches c.loop-i.run) c.if-reaches_goal.true c.reaches_goal.ensures.goal in
    record { verdict = reaches p plan (taken_all p plan c.loop-i.i c.loop-i.run c.loop-i-test.false c.loop-i.invariant) }
