use Rattle.stack_answers.proofs.StackOnce.{each_is_stack_decoded_once}
use Rattle.stack_answers.proofs.laws.each_is_stack_decoded_once.Goals as goal

pub returns : goal.returns
returns c = each_is_stack_decoded_once
