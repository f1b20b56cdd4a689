use Rattle.pruned_answers.proofs.KeptPlans.{refused_have_no_solution}
use Rattle.pruned_answers.proofs.laws.no_solution_of_texts.Goals as goal

pub returns : goal.returns
returns c = refused_have_no_solution c.args.domain.now c.args.problem.now c.args.read.now c.requires.spelled c.requires.sound c.requires.ordered
