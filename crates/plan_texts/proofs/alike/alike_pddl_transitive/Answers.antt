use Rattle.plan_texts.proofs.AlikeLaws.{pddl_transitive}
use Rattle.plan_texts.proofs.alike.alike_pddl_transitive.Goals as goal

pub returns : goal.returns
returns c = pddl_transitive c.args.one.now c.args.between.now c.args.other.now c.requires.first c.requires.second
