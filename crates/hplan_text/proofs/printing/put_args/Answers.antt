use Rattle.std.proofs.Common.{◌∙◌}
use Rattle.text_forms.proofs.sheets.Written.{wrote-as}
use Rattle.hplan_text.proofs.PrintedParts.{args-next}
use Rattle.hplan_text.proofs.printing.put_args.Goals as goal

pub loop-arg-preserved : goal.loop-arg-preserved
loop-arg-preserved c =
    args-next c.args.args.now c.loop-arg.arg-index c.arg-item.result c.loop-arg-test.true c.loop-arg.invariant c.put.ensures.wrote (wrote-as (c.as_slice.ensures.bytes ∙ c.arg-item.is) c.put-in-loop-arg.ensures.wrote)
