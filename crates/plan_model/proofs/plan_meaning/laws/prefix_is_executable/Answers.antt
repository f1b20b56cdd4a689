use Rattle.plan_model.proofs.plan_meaning.ClassicalLaws.{prefix_is_executable}
use Rattle.plan_model.proofs.plan_meaning.laws.prefix_is_executable.Goals as goal

pub returns : goal.returns
returns c = prefix_is_executable c.args.problem.now
