use Rattle.std.proofs.Common.{◌≡◌, map}
use Rattle.plan_model.specs.task_networks.Spelling.{numbers}
use Rattle.made_transport.specs.Made.{deliver_id}
use Rattle.made_transport.proofs.nodes.root.Given as goal

abbrev pub invariant-loop-j : goal.invariant-loop-j
invariant-loop-j l = l.ids ≡ map (deliver_id l.n) (numbers 0 l.j)
