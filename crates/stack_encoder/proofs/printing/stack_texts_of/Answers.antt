use Rattle.stack_encoder.proofs.StackOf.{if-printed}
use Rattle.stack_encoder.proofs.printing.stack_texts_of.Goals as goal

pub returns : goal.returns
returns c = record { printed = if-printed c.args.c.now c.in_ok-encoding.encoding c.args.cells c.in_ok-encoding.ensures.encoding c.in_ok-encoding.ensures.cells c.args.limit c.texts_within-printed.result c.texts_within-printed.ensures }
