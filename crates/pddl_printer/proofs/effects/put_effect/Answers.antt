use Rattle.pddl_printer.proofs.Batches.{added-all}
use Rattle.pddl_printer.proofs.effects.put_effect.Goals as goal

pub returns : goal.returns
returns c = added-all c.new-batch.ensures c.add_effect.ensures c.put.ensures.wrote
