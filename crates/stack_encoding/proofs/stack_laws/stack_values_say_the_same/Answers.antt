use Rattle.stack_encoding.proofs.said.StackSame.{stack-same, stack_texts-same}
use Rattle.stack_encoding.proofs.stack_laws.stack_values_say_the_same.Goals as goal

pub returns-clause-said : goal.returns-clause-said
returns-clause-said c = stack-same c.args.compiled.now c.args.cells c.args.one.now c.args.other.now c.requires.one c.requires.other

pub returns-clause-domain : goal.returns-clause-domain
returns-clause-domain c = (stack_texts-same c.args.compiled.now c.args.cells c.args.one.now c.args.other.now c.requires.one c.requires.other).0

pub returns-clause-problem : goal.returns-clause-problem
returns-clause-problem c = (stack_texts-same c.args.compiled.now c.args.cells c.args.one.now c.args.other.now c.requires.one c.requires.other).1
