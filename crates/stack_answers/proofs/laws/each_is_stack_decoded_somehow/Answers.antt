use Rattle.stack_answers.proofs.StackSomehow.{each_is_stack_decoded_somehow}
use Rattle.stack_answers.proofs.laws.each_is_stack_decoded_somehow.Goals as goal

pub returns : goal.returns
returns c = each_is_stack_decoded_somehow
