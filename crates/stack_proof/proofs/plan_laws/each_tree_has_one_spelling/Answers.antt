use Rattle.stack_proof.proofs.Spelled.{one_for_tree, one_for_order}
use Rattle.stack_proof.proofs.plan_laws.each_tree_has_one_spelling.Goals as goal

pub returns-clause-tree : goal.returns-clause-tree
returns-clause-tree c = one_for_tree c.args.problem.now c.args.checks.now c.args.compiled.now c.requires.ordered c.requires.compiled c.requires.total c.args.cells

pub returns-clause-schedule : goal.returns-clause-schedule
returns-clause-schedule c = one_for_order c.args.problem.now c.args.checks.now c.args.compiled.now c.requires.ordered c.requires.compiled c.requires.total c.args.cells
