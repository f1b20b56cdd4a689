use Rattle.plan_texts.proofs.AlikeLaws.{hddl_reflexive}
use Rattle.plan_texts.proofs.alike.alike_hddl_reflexive.Goals as goal

pub returns : goal.returns
returns c = hddl_reflexive c.args.value.now
