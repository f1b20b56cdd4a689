use Rattle.plan_proof.proofs.texts.PrintedPlans.{printed-executables}
use Rattle.plan_proof.proofs.text_laws.printed_executables.Goals as goal

pub returns : goal.returns
returns c = λ steps. printed-executables c.args.value.now c.requires steps
