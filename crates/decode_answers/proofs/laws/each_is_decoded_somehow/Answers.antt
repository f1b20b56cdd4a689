use Rattle.decode_answers.proofs.Somehow.{each_is_decoded_somehow}
use Rattle.decode_answers.proofs.laws.each_is_decoded_somehow.Goals as goal

pub returns : goal.returns
returns c = each_is_decoded_somehow
