use Rattle.stack_encode_answers.proofs.OneStack.{width_is_that_of_slots}
use Rattle.stack_encode_answers.proofs.laws.width_is_that_of_slots.Goals as goal

pub returns : goal.returns
returns c = width_is_that_of_slots
