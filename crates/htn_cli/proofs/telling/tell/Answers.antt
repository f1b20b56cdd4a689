use Rattle.std.proofs.Common.{rules}
use Rattle.htn_cli.proofs.telling.tell.Goals as goal

pub returns : goal.returns
returns c = search rules
