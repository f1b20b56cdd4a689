use Rattle.stack_answers.proofs.ShownAlike.{values_are_stack_decoded_alike}
use Rattle.stack_answers.proofs.laws.values_are_stack_decoded_alike.Goals as goal

pub returns : goal.returns
returns c = values_are_stack_decoded_alike
