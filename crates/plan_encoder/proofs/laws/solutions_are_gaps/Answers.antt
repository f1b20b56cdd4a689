use Rattle.plan_encoder.proofs.Solutions.{solutions_exactly_where_gaps, solutions_exactly_where_placed, latest_is_solution}
use Rattle.plan_encoder.proofs.laws.solutions_are_gaps.Goals as goal

pub returns-clause-exactly : goal.returns-clause-exactly
returns-clause-exactly c = solutions_exactly_where_gaps c.args.compiled.now

pub returns-clause-latest : goal.returns-clause-latest
returns-clause-latest c = latest_is_solution c.args.compiled.now

pub returns-clause-placed : goal.returns-clause-placed
returns-clause-placed c = solutions_exactly_where_placed c.args.compiled.now
