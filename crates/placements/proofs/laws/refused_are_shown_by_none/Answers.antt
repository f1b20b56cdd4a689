use Rattle.placements.proofs.RefusedPlans.{refused_are_shown_by_none}
use Rattle.placements.proofs.laws.refused_are_shown_by_none.Goals as goal

pub returns : goal.returns
returns c = refused_are_shown_by_none c.args.c.now
