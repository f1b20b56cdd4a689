use Rattle.stack_encode_answers.proofs.Alike.{values_are_stacked_alike}
use Rattle.stack_encode_answers.proofs.laws.values_are_stacked_alike.Goals as goal

pub returns : goal.returns
returns c = values_are_stacked_alike
