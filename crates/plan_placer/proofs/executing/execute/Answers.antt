use Rattle.std.proofs.Common.{sym}
use Rattle.plan_placer.proofs.Histories.{goes_on, stops}
use Rattle.plan_placer.proofs.executing.execute.Goals as goal

pub returns-in_ok-push : goal.returns-in_ok-push
returns-in_ok-push c labels label l h = goes_on c.args.c.now c.args.world.now c.requires c.args.step.now c.in-Some.said c.in-Some.is
    c.as_slice-objects.result.now c.as_slice-objects.ensures.items c.in-Some-get.schema.now (sym c.in-Some-get.ensures.item)
    c.args.history.now c.look.new.self c.in_ok-look.ensures.kept c.last-gap.result c.last-gap.ensures c.in_ok-look.look.truth
    c.in_ok-look.ensures.truth labels label l h c.if-look.true c.push.new.self c.in_ok-push.ensures.last c.in_ok-push.ensures.before
    c.in_ok-push.ensures.after

pub returns-else-look : goal.returns-else-look
returns-else-look c labels label l h = stops c.args.c.now c.args.world.now c.requires c.args.step.now c.in-Some.said c.in-Some.is
    c.as_slice-objects.result.now c.as_slice-objects.ensures.items c.in-Some-get.schema.now (sym c.in-Some-get.ensures.item)
    c.args.history.now c.look.new.self c.in_ok-look.ensures.kept c.last-gap.result c.last-gap.ensures c.in_ok-look.look.truth
    c.in_ok-look.ensures.truth labels label l h c.if-look.false c.look.new.self
