use Rattle.plan_texts.proofs.AlikeLaws.{hddl_transitive}
use Rattle.plan_texts.proofs.alike.alike_hddl_transitive.Goals as goal

pub returns : goal.returns
returns c = hddl_transitive c.args.one.now c.args.between.now c.args.other.now c.requires.first c.requires.second
