use Rattle.std.proofs.Common.{ℕ, ◌<◌, get_or}
use Rattle.plan_model.specs.declared.networks.Constraint.{Constraint}
use Rattle.plan_model.specs.plan_meaning.Network.{Meets}
use Rattle.value_choices.proofs.constraints.meets.Given as goal

abbrev pub invariant-loop-constraint : goal.invariant-loop-constraint
invariant-loop-constraint l = (k : ℕ) (d : Constraint) → k < l.constraint-index → Meets l.values (get_or l.constraints k d)
