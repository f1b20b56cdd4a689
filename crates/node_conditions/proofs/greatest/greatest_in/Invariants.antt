use Rattle.std.proofs.Common.{◌≡◌}
use Rattle.ground_state.specs.Clauses.{IsInType}
use Rattle.state_history.specs.Histories.{state_in}
use Rattle.node_conditions.specs.Demands.{IsMet}
use Rattle.node_conditions.proofs.Going.{IsDown}
use Rattle.node_conditions.proofs.greatest.greatest_in.Given as goal

abbrev pub invariant-down : goal.invariant-down
invariant-down l = record {
  down : IsDown (λ j values. IsMet (IsInType l.world) (state_in l.fn.history j) l.demand values) l.most l.gap;
  kept : l.history.flips ≡ l.fn.history.flips;
}

abbrev pub decreases-down : goal.decreases-down
decreases-down l = l.gap
