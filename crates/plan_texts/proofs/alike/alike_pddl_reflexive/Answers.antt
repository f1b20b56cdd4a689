use Rattle.plan_texts.proofs.AlikeLaws.{pddl_reflexive}
use Rattle.plan_texts.proofs.alike.alike_pddl_reflexive.Goals as goal

pub returns : goal.returns
returns c = pddl_reflexive c.args.value.now
