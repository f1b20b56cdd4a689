use Rattle.plan_texts.proofs.AlikeLaws.{pddl_symmetric}
use Rattle.plan_texts.proofs.alike.alike_pddl_symmetric.Goals as goal

pub returns : goal.returns
returns c = pddl_symmetric c.args.one.now c.args.other.now c.requires
