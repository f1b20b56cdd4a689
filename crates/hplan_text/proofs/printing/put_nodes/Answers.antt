use Rattle.std.proofs.Common.{ap}
use Rattle.text_forms.proofs.sheets.Written.{wrote-as}
use Rattle.hplan_text.specs.HPlanText.{row_text, node_words}
use Rattle.hplan_text.proofs.PrintedParts.{rows-next}
use Rattle.hplan_text.proofs.printing.put_nodes.Goals as goal

pub loop-node-preserved : goal.loop-node-preserved
loop-node-preserved c =
    let wrote = wrote-as (ap (λ z. row_text (node_words z)) c.node-item.is) c.put_node.ensures in
    rows-next node_words c.args.nodes.now c.loop-node.node-index c.node-item.result c.loop-node-test.true c.loop-node.invariant wrote
