use Rattle.text_values.proofs.OneFault.{has_one_plan_fault}
use Rattle.text_values.proofs.one_fault.one_fault_of_a_plan.Goals as goal

pub returns : goal.returns
returns c = has_one_plan_fault c.args.text.now
