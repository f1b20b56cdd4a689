use Rattle.stack_encode_answers.proofs.Somehow.{each_is_stacked_somehow}
use Rattle.stack_encode_answers.proofs.laws.each_is_stacked_somehow.Goals as goal

pub returns : goal.returns
returns c = each_is_stacked_somehow
