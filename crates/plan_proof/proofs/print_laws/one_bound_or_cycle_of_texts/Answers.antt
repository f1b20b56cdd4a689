use Rattle.plan_proof.proofs.one.OneGraph.{one_graph, one_bound, one_cycle}
use Rattle.plan_proof.proofs.print_laws.one_bound_or_cycle_of_texts.Goals as goal

pub returns-clause-graph : goal.returns-clause-graph
returns-clause-graph c = one_graph c.args.domain.now c.args.problem.now c.args.other.now c.args.one.now c.args.checks.now c.args.other_compiled.now c.args.one_compiled.now c.requires.other_spelled c.requires.one_spelled c.requires.sound c.requires.other_compiled c.requires.one_compiled

pub returns-clause-bound : goal.returns-clause-bound
returns-clause-bound c = one_bound c.args.domain.now c.args.problem.now c.args.other.now c.args.one.now c.args.checks.now c.args.other_compiled.now c.args.one_compiled.now c.requires.other_spelled c.requires.one_spelled c.requires.sound c.requires.other_compiled c.requires.one_compiled

pub returns-clause-cycle : goal.returns-clause-cycle
returns-clause-cycle c = one_cycle c.args.domain.now c.args.problem.now c.args.other.now c.args.one.now c.args.checks.now c.args.other_compiled.now c.args.one_compiled.now c.requires.other_spelled c.requires.one_spelled c.requires.sound c.requires.other_compiled c.requires.one_compiled
