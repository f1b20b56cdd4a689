use Rattle.std.proofs.Common.{◌≡◌}
use Rattle.std.specs.List.{flat_map}
use Rattle.plan_model.specs.task_networks.Spelling.{numbers}
use Rattle.made_transport.specs.Made.{nodes_for}
use Rattle.made_transport.proofs.nodes.nodes.Given as goal

abbrev pub invariant-loop-j : goal.invariant-loop-j
invariant-loop-j l = l.nodes ≡ flat_map (nodes_for l.n) (numbers 0 l.j)
