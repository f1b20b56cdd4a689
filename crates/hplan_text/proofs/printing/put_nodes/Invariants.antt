use Rattle.std.proofs.Common.{take}
use Rattle.hplan_text.specs.HPlanText.{node_rows}
use Rattle.text_forms.specs.sheets.Sheets.{Wrote}
use Rattle.hplan_text.proofs.printing.put_nodes.Given as goal

abbrev pub invariant-loop-node : goal.invariant-loop-node
invariant-loop-node l = Wrote (node_rows (take l.node-index l.nodes)) l.initial.sheet l.sheet
