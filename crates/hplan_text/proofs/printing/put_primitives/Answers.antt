use Rattle.std.proofs.Common.{ap}
use Rattle.text_forms.proofs.sheets.Written.{wrote-as, wrote-then}
use Rattle.hplan_text.specs.HPlanText.{row_text, line_words}
use Rattle.hplan_text.proofs.PrintedParts.{rows-next}
use Rattle.hplan_text.proofs.printing.put_primitives.Goals as goal

pub loop-line-preserved : goal.loop-line-preserved
loop-line-preserved c =
    let wrote = wrote-as (ap (λ z. row_text (line_words z)) c.line-item.is) (wrote-then c.put_task.ensures c.put.ensures.wrote) in
    rows-next line_words c.args.lines.now c.loop-line.line-index c.line-item.result c.loop-line-test.true c.loop-line.invariant wrote
