use Rattle.encode_answers.proofs.Alike.{values_are_encoded_alike}
use Rattle.encode_answers.proofs.laws.values_are_encoded_alike.Goals as goal

pub returns : goal.returns
returns c = values_are_encoded_alike
