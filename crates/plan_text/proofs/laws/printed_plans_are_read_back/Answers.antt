use Rattle.plan_text.proofs.Exactly.{read-back}
use Rattle.plan_text.proofs.laws.printed_plans_are_read_back.Goals as goal

pub returns : goal.returns
returns c = read-back
