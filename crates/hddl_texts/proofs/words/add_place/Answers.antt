use Rattle.std.proofs.Common.{◌∙◌}
use Rattle.pddl_printer.proofs.Batches.{added-as, added-then}
use Rattle.hddl_texts.proofs.words.add_place.Goals as goal

pub returns : goal.returns
returns c = added-then c.add.ensures (added-as (c.as_bytes.ensures.value ∙ c.format.ensures.text) c.add-2.ensures)
