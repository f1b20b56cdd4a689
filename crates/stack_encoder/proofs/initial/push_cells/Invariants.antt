use Rattle.std.proofs.Common.{◌≡◌, ◌++◌, map}
use Rattle.plan_model.specs.task_networks.Spelling.{numbers}
use Rattle.stack_encoder.proofs.CellFacts.{up_fact}
use Rattle.stack_encoder.proofs.initial.push_cells.Given as goal

abbrev pub invariant-loop-k : goal.invariant-loop-k
invariant-loop-k l = l.into ≡ l.initial.into ++ map (up_fact l.frame) (numbers 0 l.k)
