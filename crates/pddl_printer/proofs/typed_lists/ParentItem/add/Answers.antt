use Rattle.pddl_printer.proofs.Batches.{added-as, added-then}
use Rattle.pddl_printer.proofs.typed_lists.ParentItem.add.Goals as goal

pub returns : goal.returns
returns c = added-then (added-then c.add.ensures (added-as c.type_word.ensures c.add-2.ensures)) (added-then c.add-3.ensures (added-as c.type_word-2.ensures c.add-4.ensures))
