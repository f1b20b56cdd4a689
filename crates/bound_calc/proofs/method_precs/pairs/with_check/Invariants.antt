use Rattle.std.proofs.Common.{◌≡◌, ◌++◌, suc, map, take}
use Rattle.plan_model.specs.task_networks.Spelling.{numbers}
use Rattle.plan_model.specs.Pairs.{pair}
use Rattle.bound_calc.specs.method_precs.Pairs.{shifted}
use Rattle.bound_calc.proofs.method_precs.pairs.with_check.Given as goal

abbrev pub invariant-loop-k : goal.invariant-loop-k
invariant-loop-k l = l.all ≡ map (λ k. pair 0 (suc k)) (numbers 0 l.k)

abbrev pub invariant-loop-pair : goal.invariant-loop-pair
invariant-loop-pair l = l.all ≡ map (λ k. pair 0 (suc k)) (numbers 0 l.count) ++ map shifted (take l.pair-index l.pairs)
