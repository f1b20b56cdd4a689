use Rattle.node_conditions.proofs.Told.{found_first, found_never, free_stands}
use Rattle.node_conditions.proofs.conditions.NodeConditions.searched_values.Goals as goal

pub returns-in-Some : goal.returns-in-Some
returns-in-Some g c =
    let s = c.self.inside in
    found_first g.K.Standing.stands s.c.now s.world s.tree.now s.history c.self.invariant.0 c.args.node c.in_ok-demand.demand
    c.in_ok-demand.ensures.demand
    c.args.gap c.in_ok-found.found c.take.result c.take.ensures.value c.in_ok-found.ensures.found c.in-Some.values c.in-Some.is

pub returns : goal.returns
returns g c =
    let s = c.self.inside in
    found_never g.K.Standing.stands s.c.now s.world s.tree.now s.history c.self.invariant.0 c.args.node c.in_ok-demand.demand
    c.in_ok-demand.ensures.demand
    c.args.gap c.in_ok-found.found c.take.result c.take.ensures.value c.in_ok-found.ensures.found c.new-in-None.result c.in-None.is

pub returns-then-not-asks_for_values : goal.returns-then-not-asks_for_values
returns-then-not-asks_for_values g c =
    let s = c.self.inside in
    free_stands g.K.Standing.stands s.c.now s.world s.tree.now s.history c.self.invariant.0 c.args.node c.in_ok-demand.demand
    c.in_ok-demand.ensures.demand
    c.args.gap c.new.result (c.asks_for_values.ensures c.if-not-asks_for_values.true) c.new.ensures.empty
