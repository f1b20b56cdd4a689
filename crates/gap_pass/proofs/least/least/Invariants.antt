use Rattle.std.proofs.Common.{drop, Contains}
use Rattle.gap_pass.proofs.Leasts.{IsLeastSo}
use Rattle.gap_pass.proofs.least.least.Given as goal

abbrev pub invariant-loop-place : goal.invariant-loop-place
invariant-loop-place l = IsLeastSo l.numbers l.most (Contains l.places) (Contains (drop l.place-index l.places)) l.least
