use Rattle.std.proofs.Common.{drop}
use Rattle.gap_pass.proofs.Leasts.{IsLeastSo, Among}
use Rattle.gap_pass.proofs.least.least_of.Given as goal

abbrev pub invariant-loop-child : goal.invariant-loop-child
invariant-loop-child l = IsLeastSo l.numbers l.most (Among l.children l.of) (Among l.children (drop l.child-index l.of)) l.least
