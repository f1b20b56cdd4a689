use Rattle.pddl_printer.proofs.Batches.{added-then}
use Rattle.pddl_printer.proofs.typed_lists.ParamItem.add.Goals as goal

pub returns : goal.returns
returns c = added-then c.add.ensures c.add_param.ensures
