use Rattle.std.proofs.Common.{◌≡◌, take}
use Rattle.stack_speller.specs.Tips.{tip_after, cells_from, greatest}
use Rattle.stack_speller.proofs.spelling.width_of.Given as goal

abbrev pub invariant-loop-node : goal.invariant-loop-node
invariant-loop-node l = record {
  tip : l.tip ≡ tip_after l.c l.run.tree 1 (take l.node-index l.order);
  width : l.width ≡ greatest (cells_from l.c l.run.tree 1 (take l.node-index l.order));
}
