use Rattle.std.proofs.Common.{take}
use Rattle.plan_texts.specs.Together.{Together}
use Rattle.numbered_lines.specs.Numbered.{IsSplitOf}
use Rattle.numbered_lines.proofs.numbering.splits.Given as goal

abbrev pub invariant-loop-node : goal.invariant-loop-node
invariant-loop-node l = Together (IsSplitOf l.c l.places.ids) (take l.node-index l.node-items) l.splits
