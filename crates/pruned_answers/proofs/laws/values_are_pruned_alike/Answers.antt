use Rattle.pruned_answers.proofs.OneOutcome.{values_pruned_alike, values_have_one_outcome}
use Rattle.pruned_answers.proofs.laws.values_are_pruned_alike.Goals as goal

pub returns-clause-alike : goal.returns-clause-alike
returns-clause-alike c = values_pruned_alike c.args.domain.now c.args.problem.now c.args.read.now c.args.other.now c.requires.spelled c.requires.other_spelled c.requires.sound

pub returns-clause-one : goal.returns-clause-one
returns-clause-one c = values_have_one_outcome c.args.domain.now c.args.problem.now c.args.read.now c.args.other.now c.requires.spelled c.requires.other_spelled c.requires.sound
