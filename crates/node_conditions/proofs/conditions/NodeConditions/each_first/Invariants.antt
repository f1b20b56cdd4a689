use Rattle.std.proofs.Common.{ℕ, [], ◌≡◌, ◌<◌, length, get_or}
use Rattle.node_conditions.specs.Stands.{AreFirstAt}
use Rattle.node_conditions.proofs.conditions.NodeConditions.each_first.Given as goal

abbrev pub invariant-loop-node : goal.invariant-loop-node
invariant-loop-node g l = record {
  as_many : length l.all ≡ l.node;
  first : (k : ℕ) → k < l.node → AreFirstAt g.K.Standing.stands k (get_or l.gaps k 0) (get_or l.all k []);
}
