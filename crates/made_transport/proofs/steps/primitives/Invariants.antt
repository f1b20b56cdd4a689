use Rattle.std.proofs.Common.{◌≡◌}
use Rattle.std.specs.List.{flat_map}
use Rattle.plan_model.specs.task_networks.Spelling.{numbers}
use Rattle.made_transport.specs.Made.{primitives_for}
use Rattle.made_transport.proofs.steps.primitives.Given as goal

abbrev pub invariant-loop-j : goal.invariant-loop-j
invariant-loop-j l = l.lines ≡ flat_map primitives_for (numbers 0 l.j)
