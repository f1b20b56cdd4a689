use Rattle.hddl_prune.specs.Search.{parts_of, kept_of}
use Rattle.hddl_prune.proofs.ReachSteps.{chosen_kept}
use Rattle.hddl_prune.proofs.chosen.Chosen.of.Goals as goal

pub returns-clause-kept : goal.returns-clause-kept
returns-clause-kept c = chosen_kept c.args.h.now (parts_of c.args.live.now) (kept_of c.in_ok-reach.reach) c.in_ok-reach.ensures.opened c.in_ok-reach.ensures.settled
    c.in_ok-tasks.tasks c.in_ok-actions.actions c.in_ok-methods.methods c.in_ok-tasks.ensures.numbers c.in_ok-actions.ensures.numbers c.in_ok-methods.ensures.numbers
    c.in_ok-tasks.ensures.rising c.in_ok-actions.ensures.rising
