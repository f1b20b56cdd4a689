use Rattle.std.proofs.Common.{ap, ◌∙◌}
use Rattle.plan_text.specs.Printing.{args_text}
use Rattle.text_forms.proofs.sheets.Written.{wrote-as}
use Rattle.plan_text.proofs.PrintedParts.{args-next, args-done, line-wrote}
use Rattle.plan_text.proofs.printing.put_step.Goals as goal

pub loop-arg-preserved : goal.loop-arg-preserved
loop-arg-preserved c =
    args-next c.as_slice-arg-items.result.now c.loop-arg.arg-index c.arg-item.result c.loop-arg-test.true c.loop-arg.invariant c.put-in-loop-arg.ensures.wrote (wrote-as (c.as_slice-in-loop-arg.ensures.bytes ∙ c.arg-item.is) c.put-in-loop-arg-2.ensures.wrote)

pub returns : goal.returns
returns c =
    let args = args-done c.as_slice-arg-items.result.now c.loop-arg.arg-index c.loop-arg-test.false c.loop-arg.invariant in
    line-wrote c.args.step.now c.put.ensures.wrote (wrote-as c.as_slice.ensures.bytes c.put-2.ensures.wrote) (wrote-as (ap args_text c.as_slice-arg-items.ensures.items) args) c.put-3.ensures.wrote
