use Rattle.plan_placer.proofs.Histories.{goal_reached, goal_missed}
use Rattle.plan_placer.proofs.executing.reached.Goals as goal

pub returns-then-look-clause-reach : goal.returns-then-look-clause-reach
returns-then-look-clause-reach c labels a = goal_reached c.args.c.now c.args.world.now c.requires.world labels c.in_ok-history.history
    c.look.new.self (c.in_ok-history.ensures.states labels a) c.in_ok-look.ensures.kept c.last-gap.result c.last-gap.ensures
    c.in_ok-look.look.truth c.in_ok-look.ensures.truth c.if-look.true

pub returns-clause-stopped : goal.returns-clause-stopped
returns-clause-stopped c labels a = goal_missed c.args.c.now c.args.world.now c.requires.world labels c.in_ok-history.history
    c.look.new.self (c.in_ok-history.ensures.states labels a) c.in_ok-look.ensures.kept c.last-gap.result c.last-gap.ensures
    c.in_ok-look.look.truth c.in_ok-look.ensures.truth c.if-look.false
