use Rattle.std.proofs.Common.{◌≡◌, map, filter, not, get_or}
use Rattle.plan_model.specs.task_networks.Spelling.{numbers, is_heir}
use Rattle.step_reader.proofs.rows.fill_others.Given as goal

-- the cells so far are written down
abbrev pub invariant-loop-child : goal.invariant-loop-child
invariant-loop-child l = l.into.items ≡ map (λ i. get_or l.cells i 0) (filter (λ i. not (is_heir l.heir i)) (numbers 0 l.child))
