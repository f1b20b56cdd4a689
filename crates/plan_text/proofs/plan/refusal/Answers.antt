use Rattle.plan_text.proofs.LookedThrough.{spells-one}
use Rattle.plan_text.proofs.plan.refusal.Goals as goal

pub unreachable-requires : goal.unreachable-requires
unreachable-requires c = spells-one c.args.text.now c.in-Ok.s c.in-Ok.ensures.text c.in-Ok.ensures.faultless c.in-None.ensures c.requires.none
