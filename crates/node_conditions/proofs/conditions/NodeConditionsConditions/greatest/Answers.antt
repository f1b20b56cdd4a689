use Rattle.std.proofs.Common.{ℕ, Option, Some, option_map, ap, sym, subst, ◌∙◌}
use Rattle.gap_pass.specs.Conditions.{IsGreatestOrNone}
use Rattle.node_conditions.specs.declared.greatest.Stand.{Stand}
use Rattle.node_conditions.specs.Stands.{Somehow}
use Rattle.node_conditions.proofs.Told.{stand_first, greatest_stands}
use Rattle.node_conditions.proofs.conditions.NodeConditionsConditions.greatest.Goals as goal

pub keep-requires : goal.keep-requires
keep-requires g c =
    let s = c.self.inside in
    stand_first g.K.Standing.stands s.c.now s.world s.tree.now s.history c.self.invariant.0 c.args.node c.in_ok-demand.demand
    c.in_ok-demand.ensures.demand
    c.args.most c.in_ok-stand.field-0 c.in_ok-stand.ensures.stand c.in-Some.stand c.in-Some.is

pub returns-in-Some-clause-greatest : goal.returns-in-Some-clause-greatest
returns-in-Some-clause-greatest g c =
    let s = c.self.inside in
    let is = greatest_stands g.K.Standing.stands s.c.now s.world s.tree.now s.history c.self.invariant.0 c.args.node c.in_ok-demand.demand
    c.in_ok-demand.ensures.demand
    c.args.most c.in_ok-stand.field-0 c.in_ok-stand.ensures.stand in
    subst (λ (z : Option ℕ). IsGreatestOrNone (Somehow g.K.Standing.stands c.args.node) c.args.most z)
    (ap (option_map (λ (x : Stand). x.gap)) c.in-Some.is ∙ ap Some (sym c.keep.ensures)) is

pub returns-in-None-clause-greatest : goal.returns-in-None-clause-greatest
returns-in-None-clause-greatest g c =
    let s = c.self.inside in
    let is = greatest_stands g.K.Standing.stands s.c.now s.world s.tree.now s.history c.self.invariant.0 c.args.node c.in_ok-demand.demand
    c.in_ok-demand.ensures.demand
    c.args.most c.in_ok-stand.field-0 c.in_ok-stand.ensures.stand in
    subst (λ (z : Option ℕ). IsGreatestOrNone (Somehow g.K.Standing.stands c.args.node) c.args.most z)
    (ap (option_map (λ (x : Stand). x.gap)) c.in-None.is) is
