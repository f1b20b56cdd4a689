use Rattle.ground_answers.proofs.GroundAlike.{values_have_one_ground_bound}
use Rattle.ground_answers.proofs.laws.values_have_one_ground_bound.Goals as goal

pub returns : goal.returns
returns c = values_have_one_ground_bound
