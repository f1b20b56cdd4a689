use Rattle.std.proofs.Common.{ℕ, ◌≤◌, length}
use Rattle.plan_model.specs.Pairs.{Pairs}
use Rattle.plan_model.specs.task_networks.Bound.{AreBlocks}
use Rattle.bound_calc.specs.Blocks.{child_number}
use Rattle.bound_calc.proofs.Along.{IsSummed}
use Rattle.bound_calc.proofs.blocks.greatest_block.Given as goal

abbrev pub invariant-loop-k : goal.invariant-loop-k
invariant-loop-k l = record {
  within : l.k ≤ length l.plan.line;
  summed : (block : ℕ → ℕ) → AreBlocks (Pairs l.plan.schema.pairs) l.plan.line block → IsSummed l.plan.line (child_number l.r l.numbers l.plan) block l.k l.pending l.greatest;
}
