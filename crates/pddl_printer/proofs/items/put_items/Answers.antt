use Rattle.pddl_printer.proofs.Batches.{added-all}
use Rattle.pddl_printer.proofs.items.put_items.Goals as goal

pub returns : goal.returns
returns g c = added-all c.new-batch.ensures c.add_items.ensures c.put.ensures.wrote
