use Rattle.std.proofs.Common.{rules}
use Rattle.step_reader.proofs.due.children_at.Goals as goal

pub returns-in-Some : goal.returns-in-Some
returns-in-Some c = search rules
