use Rattle.plan_proof.proofs.texts.SamePlans.{spelled-plans}
use Rattle.plan_proof.proofs.text_laws.plans_of_texts.Goals as goal

pub returns : goal.returns
returns c = λ steps. (
  λ e. (spelled-plans e.0 c.args.value.now c.args.domain.now c.args.problem.now e.1 c.requires steps).0 e.2,
  λ e. (c.args.value.now, c.requires, e),
)
