use Rattle.std.proofs.Common.{rules}
use Rattle.chosen_trees.proofs.choosing.asking.Goals as goal

pub returns-in-Some : goal.returns-in-Some
returns-in-Some c = search rules
