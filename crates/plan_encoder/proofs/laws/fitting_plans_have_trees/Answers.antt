use Rattle.plan_encoder.proofs.PlanTrees.{trees_exactly_where_fitting}
use Rattle.plan_encoder.proofs.laws.fitting_plans_have_trees.Goals as goal

pub returns : goal.returns
returns c = trees_exactly_where_fitting c.args.compiled.now
