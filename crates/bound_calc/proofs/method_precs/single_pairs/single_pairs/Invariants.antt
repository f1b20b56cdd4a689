use Rattle.std.proofs.Common.{◌≡◌, take}
use Rattle.plan_model.specs.plan_meaning.Compilation.{once, same_pair}
use Rattle.plan_model.specs.net_order.Closure.{IsDirect}
use Rattle.bound_calc.proofs.method_precs.single_pairs.single_pairs.Given as goal

abbrev pub invariant-loop-pair : goal.invariant-loop-pair
invariant-loop-pair l = record {
  direct : IsDirect l.count (take l.pair-index l.pairs) l.seen.items;
  single : l.single ≡ once same_pair (take l.pair-index l.pairs);
}
