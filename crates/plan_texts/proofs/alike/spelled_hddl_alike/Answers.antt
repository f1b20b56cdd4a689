use Rattle.plan_texts.proofs.UniqueHddl.{hddl_alike}
use Rattle.plan_texts.proofs.alike.spelled_hddl_alike.Goals as goal

pub returns : goal.returns
returns c = hddl_alike c.args.one.now c.args.other.now c.args.domain.now c.args.problem.now c.requires.first c.requires.second
