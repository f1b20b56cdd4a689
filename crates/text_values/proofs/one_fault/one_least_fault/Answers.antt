use Rattle.text_values.proofs.OneFault.{have_one_fault}
use Rattle.text_values.proofs.one_fault.one_least_fault.Goals as goal

pub returns : goal.returns
returns c = have_one_fault c.args.language.now c.args.domain.now c.args.problem.now
