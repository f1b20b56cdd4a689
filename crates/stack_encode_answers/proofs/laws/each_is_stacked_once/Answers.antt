use Rattle.stack_encode_answers.proofs.Once.{each_is_stacked_once}
use Rattle.stack_encode_answers.proofs.laws.each_is_stacked_once.Goals as goal

pub returns : goal.returns
returns c = each_is_stacked_once
