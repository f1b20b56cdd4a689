use Rattle.std.proofs.Common.{◌≡◌, length}
use Rattle.ground_bound.proofs.grounded.task_schemas.Given as goal

abbrev pub invariant-loop : goal.invariant-loop
invariant-loop l = length l.tasks ≡ l.counter
