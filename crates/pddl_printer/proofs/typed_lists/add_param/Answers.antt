use Rattle.pddl_printer.proofs.Batches.{added-as, added-then}
use Rattle.pddl_printer.proofs.typed_lists.add_param.Goals as goal

pub returns : goal.returns
returns c = added-then (added-then c.add.ensures (added-as c.name_word.ensures c.add-2.ensures)) (added-then c.add-3.ensures c.add_kind.ensures)
