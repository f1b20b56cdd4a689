use Rattle.std.proofs.Common.{ap}
use Rattle.plan_text.specs.Printing.{line_text}
use Rattle.text_forms.proofs.sheets.Written.{wrote-as}
use Rattle.plan_text.proofs.PrintedParts.{steps-next}
use Rattle.plan_text.proofs.printing.put_plan.Goals as goal

pub loop-step-preserved : goal.loop-step-preserved
loop-step-preserved c =
    steps-next c.args.plan.now c.loop-step.step-index c.step-item.result c.loop-step-test.true c.loop-step.invariant (wrote-as (ap line_text c.step-item.is) c.put_step.ensures)
