use Rattle.plan_proof.proofs.texts.PrintedPlans.{printed-plans}
use Rattle.plan_proof.proofs.text_laws.printed_plans.Goals as goal

pub returns : goal.returns
returns c = λ steps. printed-plans c.args.value.now c.requires steps
