use Rattle.plan_texts.proofs.PlanSteps.{printed-plan}
use Rattle.plan_text.proofs.printing.print.Goals as goal

pub returns-clause-spelled : goal.returns-clause-spelled
returns-clause-spelled c = λ printable. printed-plan c.args.plan.now printable
