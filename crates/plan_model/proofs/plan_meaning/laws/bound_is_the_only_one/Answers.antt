use Rattle.plan_model.proofs.plan_meaning.BoundLaws.{bound_is_the_only_one}
use Rattle.plan_model.proofs.plan_meaning.laws.bound_is_the_only_one.Goals as goal

pub returns : goal.returns
returns c = bound_is_the_only_one c.args.problem.now c.args.checks.now c.args.compiled.now c.requires.compiled
