use Rattle.std.proofs.Common.{rules}
use Rattle.plan_model.proofs.membership.in_type.Goals as goal

pub returns-in-Some : goal.returns-in-Some
returns-in-Some c = search rules
