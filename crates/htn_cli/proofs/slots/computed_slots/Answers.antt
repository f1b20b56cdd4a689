use Rattle.htn_cli.proofs.Results.{if_ok_too}
use Rattle.htn_cli.proofs.Leavings.{positive}
use Rattle.htn_cli.proofs.slots.computed_slots.Goals as goal

pub comes_to-requires : goal.comes_to-requires
comes_to-requires c = positive c.args.level c.args.compiled.now c.in_ok-bound.bound c.in_ok-bound.ensures.bound

pub returns-clause-slots : goal.returns-clause-slots
returns-clause-slots c = if_ok_too c.slots_in.result (λ slots are. (c.in_ok-bound.bound, c.in_ok-bound.ensures.bound, are c.in_ok-bound.bound c.comes_to.ensures)) c.slots_in.ensures.slots
