use Rattle.encode_answers.proofs.WithinBound.{no_width_is_past_the_bound}
use Rattle.encode_answers.proofs.laws.no_width_is_past_the_bound.Goals as goal

pub returns : goal.returns
returns c = no_width_is_past_the_bound
