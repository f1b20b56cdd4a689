use Rattle.pruned_answers.proofs.KeptPlans.{pruned_texts_keep_plans}
use Rattle.pruned_answers.proofs.laws.pruned_texts_keep_plans.Goals as goal

pub returns : goal.returns
returns c = pruned_texts_keep_plans c.args.domain.now c.args.problem.now c.args.read.now c.requires.spelled c.requires.sound c.requires.ordered
