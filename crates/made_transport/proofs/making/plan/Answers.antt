use Rattle.std.proofs.Common.{rules}
use Rattle.made_transport.proofs.making.plan.Goals as goal

pub returns : goal.returns
returns c = search rules
