use Rattle.placements.proofs.PlacedPlans.{placed_are_solutions}
use Rattle.placements.proofs.laws.placed_are_solutions.Goals as goal

pub returns : goal.returns
returns c = placed_are_solutions c.args.c.now
