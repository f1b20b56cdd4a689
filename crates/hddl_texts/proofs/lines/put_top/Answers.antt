use Rattle.std.proofs.Common.{◌∷◌}
use Rattle.text_forms.specs.Printing.{bytes}
use Rattle.pddl_printer.proofs.Batches.{added-all, added-of, added-then}
use Rattle.hddl_texts.specs.PrintedHddl.{variables_part}
use Rattle.hddl_texts.specs.Texts.{hddl_of}
use Rattle.hddl_texts.proofs.lines.put_top.Goals as goal

pub returns : goal.returns
returns c =
    let variables = added-of (λ xs. 32 ∷ bytes (variables_part (hddl_of c.args.p.now) xs)) c.as_slice.ensures.items c.add_variables.ensures in
    added-all c.new-batch.ensures (added-then c.add.ensures (added-then variables c.add_network.ensures)) c.put.ensures.wrote
