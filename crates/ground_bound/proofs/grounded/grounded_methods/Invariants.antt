use Rattle.std.proofs.Common.{take}
use Rattle.std.specs.List.{AllZip}
use Rattle.ground_bound.specs.MethodRows.{row}
use Rattle.ground_bound.specs.Grounded.{IsGroundedRow}
use Rattle.ground_bound.proofs.grounded.grounded_methods.Given as goal

abbrev pub invariant-loop-it : goal.invariant-loop-it
invariant-loop-it l = AllZip (λ x it. IsGroundedRow l.c l.tasks (row x) it) (take l.it-index l.methods) l.plans
