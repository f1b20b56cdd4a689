use Rattle.tree_core.proofs.Labelled.{labelled_is_alike, runs_stand_for_trees}
use Rattle.tree_core.proofs.laws.runs_stand_for_trees.Goals as goal

pub returns-clause-alike : goal.returns-clause-alike
returns-clause-alike c = labelled_is_alike c.args.of.now

pub returns-clause-stands : goal.returns-clause-stands
returns-clause-stands c = runs_stand_for_trees c.args.of.now
