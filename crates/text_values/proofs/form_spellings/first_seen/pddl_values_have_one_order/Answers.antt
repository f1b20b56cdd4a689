use Rattle.text_values.proofs.form_spellings.OnePddlOrder.{one_order}
use Rattle.text_values.proofs.form_spellings.first_seen.pddl_values_have_one_order.Goals as goal

pub returns : goal.returns
returns c = one_order
