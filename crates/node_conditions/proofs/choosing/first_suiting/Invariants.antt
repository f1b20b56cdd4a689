use Rattle.std.proofs.Common.{◌≡◌}
use Rattle.ground_state.specs.Clauses.{IsInType}
use Rattle.value_choices.specs.Ranges.{left}
use Rattle.state_history.specs.Histories.{state_in}
use Rattle.node_conditions.proofs.Coming.{IsComing}
use Rattle.node_conditions.proofs.choosing.first_suiting.Given as goal

abbrev pub invariant-tried : goal.invariant-tried
invariant-tried l = record {
  coming : IsComing (IsInType l.world) (state_in l.fn.history) l.plan l.known l.condition l.gap l.choice l.since;
  kept : l.history.flips ≡ l.fn.history.flips;
}

abbrev pub decreases-tried : goal.decreases-tried
decreases-tried l = left l.choice
