use Rattle.stack_proof.proofs.texts.Lined.{ordered_alike}
use Rattle.stack_proof.proofs.order_laws.values_are_ordered_alike.Goals as goal

pub returns : goal.returns
returns c = ordered_alike c.args.domain.now c.args.problem.now c.args.other.now c.args.one.now c.args.checks.now c.args.other_compiled.now c.args.one_compiled.now c.requires.other_spelled c.requires.one_spelled c.requires.sound c.requires.other_compiled c.requires.one_compiled
