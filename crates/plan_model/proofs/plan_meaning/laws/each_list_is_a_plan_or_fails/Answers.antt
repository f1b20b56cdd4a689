use Rattle.plan_model.proofs.plan_meaning.FailingLaws.{each_is_plan_or_fails}
use Rattle.plan_model.proofs.plan_meaning.laws.each_list_is_a_plan_or_fails.Goals as goal

pub returns : goal.returns
returns c = each_is_plan_or_fails c.args.problem.now c.requires.apart
