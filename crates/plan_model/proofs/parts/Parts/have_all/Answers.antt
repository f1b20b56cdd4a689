use Rattle.std.proofs.Common.{rules}
use Rattle.plan_model.proofs.parts.Parts.have_all.Goals as goal

pub returns : goal.returns
returns c = search rules
