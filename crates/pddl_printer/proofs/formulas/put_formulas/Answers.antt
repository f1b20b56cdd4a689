use Rattle.pddl_printer.proofs.Batches.{added-all}
use Rattle.pddl_printer.proofs.formulas.put_formulas.Goals as goal

pub returns : goal.returns
returns c = added-all c.new-batch.ensures c.add_formulas.ensures c.put.ensures.wrote
