use Rattle.plan_texts.proofs.AlikeLaws.{hddl_symmetric}
use Rattle.plan_texts.proofs.alike.alike_hddl_symmetric.Goals as goal

pub returns : goal.returns
returns c = hddl_symmetric c.args.one.now c.args.other.now c.requires
