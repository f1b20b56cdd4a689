use Rattle.text_values.proofs.Refusals.{domain_refused, problem_refused}
use Rattle.text_values.proofs.values.read_as.Goals as goal

pub returns-in-Ok-clause-refused : goal.returns-in-Ok-clause-refused
returns-in-Ok-clause-refused c =
    problem_refused c.args.language c.args.domain.now c.args.problem.now c.bound_domain.new.names c.in-Ok.bound c.in-Ok.ensures.bound c.value_over.result c.value_over.ensures.refused

pub returns-clause-refused : goal.returns-clause-refused
returns-clause-refused c = domain_refused c.args.language c.args.domain.now c.args.problem.now c.in-Err.error c.in-Err.ensures.refused
