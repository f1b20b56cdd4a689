use Rattle.decode_answers.proofs.Once.{each_is_decoded_once}
use Rattle.decode_answers.proofs.laws.each_is_decoded_once.Goals as goal

pub returns : goal.returns
returns c = each_is_decoded_once
