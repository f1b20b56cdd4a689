use Rattle.tree_decoder.proofs.Guarded as laws
use Rattle.tree_decoder.proofs.meeting.are_kept.Goals as goal

pub returns-then-not-has : goal.returns-then-not-has
returns-then-not-has c =
    laws.one_not_kept c.args.world.now c.args.env.now.values.items c.args.guards.now c.loop-guard.guard-index _ c.loop-guard-test.true
    c.value.result c.value.ensures c.has.result c.has.ensures c.if-not-has.true

pub loop-guard-preserved : goal.loop-guard-preserved
loop-guard-preserved c =
    laws.one_more_kept c.args.world.now c.args.env.now.values.items c.args.guards.now c.loop-guard.guard-index _ c.loop-guard-test.true
    c.value.result c.value.ensures c.has.result c.has.ensures c.if-not-has.false c.loop-guard.invariant

pub returns : goal.returns
returns c =
    laws.all_kept c.args.world.now c.args.env.now.values.items c.args.guards.now c.loop-guard.guard-index c.loop-guard-test.false
    c.loop-guard.invariant
