use Rattle.std.proofs.Common.{sym, subst, ◌∙◌}
use Rattle.ground_state.specs.Clauses.{IsInType}
use Rattle.state_history.specs.Histories.{state_in}
use Rattle.node_conditions.specs.Looks.{HoldsNever}
use Rattle.node_conditions.proofs.Coming.{Suits, IsComing, coming_next, never, look_here}
use Rattle.node_conditions.proofs.choosing.first_suiting.Goals as goal

pub returns-then-not-advance-clause-found : goal.returns-then-not-advance-clause-found
returns-then-not-advance-clause-found c =
    let In = IsInType c.args.world.now in
    let state = state_in c.args.history.now in
    let here = look_here In c.tried.history.flips c.args.history.now.flips c.args.plan.now c.args.condition c.values.result.now
    c.tried.choice.values.items c.args.gap
    c.in_ok-look.look c.tried.invariant.kept c.values.ensures.values c.in_ok-look.ensures.look in
    subst (λ since. HoldsNever (Suits In state c.args.plan.now c.args.known.now c.args.condition c.args.gap) since c.args.gap)
    (sym c.max-since.ensures)
    (never In state c.args.plan.now c.args.known.now c.args.condition c.args.gap c.tried.choice c.tried.since c.tried.invariant.coming
    c.in_ok-look.look here c.if-look.false
    c.if-not-advance.ensures.moved)

pub tried-preserved : goal.tried-preserved
tried-preserved c =
    let In = IsInType c.args.world.now in
    let state = state_in c.args.history.now in
    let here = look_here In c.tried.history.flips c.args.history.now.flips c.args.plan.now c.args.condition c.values.result.now
    c.tried.choice.values.items c.args.gap
    c.in_ok-look.look c.tried.invariant.kept c.values.ensures.values c.in_ok-look.ensures.look in
    record {
      coming = subst (IsComing In state c.args.plan.now c.args.known.now c.args.condition c.args.gap c.advance.new.self)
          (sym c.max-since.ensures)
          (coming_next In state c.args.plan.now c.args.known.now c.args.condition c.args.gap c.tried.choice c.tried.since
          c.tried.invariant.coming c.in_ok-look.look here c.if-look.false
          c.advance.new.self c.advance.ensures.kept c.advance.ensures.choice c.if-not-advance.ensures.moved);
      kept = c.look_with.ensures.kept ∙ c.tried.invariant.kept;
    }
