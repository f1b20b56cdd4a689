use Rattle.plan_texts.proofs.PlanSteps.{one-plan, printed-plan}
use Rattle.plan_texts.proofs.plans.plan_law.Goals as goal

pub returns : goal.returns
returns c = record { one = one-plan c.args.text.now; printed = printed-plan }
