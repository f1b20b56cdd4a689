use Rattle.std.proofs.Common.{Option, set, sym, subst, arith}
use Rattle.node_conditions.specs.declared.greatest.Stand.{Stand}
use Rattle.node_conditions.specs.Stands.{AreKept}
use Rattle.node_conditions.proofs.Kept.{kept_without}
use Rattle.node_conditions.proofs.conditions.NodeConditions.kept.Goals as goal

pub invariant_of-self : goal.invariant_of-self
invariant_of-self g c =
    let l = c.if-place-len.false in
    let e = c.len.ensures in (
      c.self.invariant.0,
      subst (λ (z : Option Stand). AreKept g.K.Standing.stands (set c.self.inside.found.items c.args.node z)) (sym c.take.ensures.after)
          (kept_without g.K.Standing.stands c.self.inside.found.items c.self.invariant.1 c.args.node (omega (arith, l, e))),
    )

pub invariant_of-self-2 : goal.invariant_of-self-2
invariant_of-self-2 g c =
    let l = c.if-place-len.false in
    let e = c.len.ensures in (
      c.self.invariant.0,
      subst (λ (z : Option Stand). AreKept g.K.Standing.stands (set c.self.inside.found.items c.args.node z)) (sym c.take.ensures.after)
          (kept_without g.K.Standing.stands c.self.inside.found.items c.self.invariant.1 c.args.node (omega (arith, l, e))),
    )
