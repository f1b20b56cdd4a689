use Rattle.decode_answers.proofs.Alike.{values_are_decoded_alike}
use Rattle.decode_answers.proofs.laws.values_are_decoded_alike.Goals as goal

pub returns : goal.returns
returns c = values_are_decoded_alike
