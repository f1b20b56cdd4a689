use Rattle.stack_encode_answers.proofs.OneStack.{each_is_one_stack}
use Rattle.stack_encode_answers.proofs.laws.each_is_one_stack.Goals as goal

pub returns : goal.returns
returns c = each_is_one_stack
