use Rattle.encode_answers.proofs.Once.{each_is_encoded_once}
use Rattle.encode_answers.proofs.laws.each_is_encoded_once.Goals as goal

pub returns : goal.returns
returns c = each_is_encoded_once
