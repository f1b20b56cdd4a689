use Rattle.std.proofs.Common.{sym, subst}
use Rattle.std.specs.Prelude.{IfOk}
use Rattle.ground_state.specs.Clauses.{IsInType}
use Rattle.state_history.specs.Histories.{state_in}
use Rattle.node_conditions.specs.declared.demand.Demand.{Demand}
use Rattle.node_conditions.specs.Demands.{IsMet}
use Rattle.node_conditions.specs.Looks.{IsFound}
use Rattle.node_conditions.proofs.greatest.first_in.Goals as goal

pub returns-in-Action-clause-found : goal.returns-in-Action-clause-found
returns-in-Action-clause-found c =
    subst (λ (z : Demand). IfOk c.truth_in.result (IsFound (λ j values. IsMet (IsInType c.args.world.now)
    (state_in c.args.history.now j) z values) c.args.gap))
    (sym c.in-Action.is) c.truth_in.ensures.found
