use Rattle.stack_encoding.proofs.StackOver.{has_stack_value}
use Rattle.stack_encoding.proofs.stack_laws.every_problem_has_a_stack_value.Goals as goal

pub returns : goal.returns
returns c = has_stack_value c.args.compiled.now c.args.cells
