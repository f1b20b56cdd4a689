use Rattle.std.proofs.Common.{ap, map, [], ◌∷◌, ◌++◌}
use Rattle.std.specs.Fmt.{decimal}
use Rattle.text_forms.proofs.sheets.Written.{wrote-as}
use Rattle.hplan_text.specs.HPlanText.{words_behind}
use Rattle.hplan_text.proofs.PrintedParts.{node-wrote}
use Rattle.hplan_text.proofs.printing.put_node.Goals as goal

pub returns : goal.returns
returns c =
    let ids = ap (λ z. words_behind (map decimal z) ++ 10 ∷ []) c.as_slice-2.ensures.items in
    node-wrote c.args.node.now c.put_task.ensures c.put.ensures.wrote (wrote-as c.as_slice.ensures.bytes c.put-2.ensures.wrote) (wrote-as ids c.put_ids.ensures)
