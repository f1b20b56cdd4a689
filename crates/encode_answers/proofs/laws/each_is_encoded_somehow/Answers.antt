use Rattle.encode_answers.proofs.Somehow.{each_is_encoded_somehow}
use Rattle.encode_answers.proofs.laws.each_is_encoded_somehow.Goals as goal

pub returns : goal.returns
returns c = each_is_encoded_somehow
