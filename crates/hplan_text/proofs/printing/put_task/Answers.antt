use Rattle.std.proofs.Common.{ap}
use Rattle.text_forms.proofs.sheets.Written.{wrote-as}
use Rattle.hplan_text.specs.HPlanText.{words_behind}
use Rattle.hplan_text.proofs.PrintedParts.{task-wrote}
use Rattle.hplan_text.proofs.printing.put_task.Goals as goal

pub returns : goal.returns
returns c =
    task-wrote c.args.line.now c.put_id.ensures c.put.ensures.wrote (wrote-as c.as_slice.ensures.bytes c.put-2.ensures.wrote) (wrote-as (ap words_behind c.as_slice-2.ensures.items) c.put_args.ensures)
