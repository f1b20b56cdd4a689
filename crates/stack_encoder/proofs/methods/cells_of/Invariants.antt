use Rattle.std.proofs.Common.{◌≡◌, map, drop}
use Rattle.plan_model.specs.task_networks.Spelling.{numbers}
use Rattle.stack_machine.specs.Stack.{behind}
use Rattle.stack_encoder.proofs.methods.cells_of.Given as goal

abbrev pub invariant-loop-k : goal.invariant-loop-k
invariant-loop-k l = l.cells.items ≡ map (behind (drop l.k l.line)) (numbers 0 l.count)
