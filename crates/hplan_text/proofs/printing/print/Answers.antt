use Rattle.std.proofs.Common.{ap, map, [], ◌∷◌, ◌++◌}
use Rattle.std.specs.Fmt.{decimal}
use Rattle.text_forms.proofs.sheets.Written.{wrote-as}
use Rattle.hplan_text.specs.HPlanText.{words_behind, line_rows, node_rows}
use Rattle.hplan_text.proofs.PrintedParts.{plan-wrote}
use Rattle.hplan_text.proofs.printing.print.Goals as goal

pub returns : goal.returns
returns c =
    let primitives = wrote-as (ap line_rows c.as_slice.ensures.items) c.put_primitives.ensures in
    let root = wrote-as (ap (λ z. words_behind (map decimal z) ++ 10 ∷ []) c.as_slice-2.ensures.items) c.put_ids.ensures in
    let nodes = wrote-as (ap node_rows c.as_slice-3.ensures.items) c.put_nodes.ensures in
    record { printed = plan-wrote c.args.plan.now c.put.ensures.wrote primitives c.put-2.ensures.wrote root nodes c.put-3.ensures.wrote }
