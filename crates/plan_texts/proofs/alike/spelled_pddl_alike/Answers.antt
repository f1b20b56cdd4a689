use Rattle.plan_texts.proofs.UniquePddl.{spelled_alike}
use Rattle.plan_texts.proofs.alike.spelled_pddl_alike.Goals as goal

pub returns : goal.returns
returns c = spelled_alike c.args.one.now c.args.other.now c.args.domain.now c.args.problem.now c.requires.first c.requires.second
