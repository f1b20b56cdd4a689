use Rattle.std.proofs.Common.{arith}
use Rattle.node_conditions.proofs.Kept.{kept_with}
use Rattle.node_conditions.proofs.conditions.NodeConditions.keep.Goals as goal

pub invariant_of-self : goal.invariant_of-self
invariant_of-self g c = (
  c.self.invariant.0,
  kept_with g.K.Standing.stands c.self.inside.found.items c.self.invariant.1 c.args.node
      (let l = c.if-place-len.true in let e = c.len.ensures in omega (arith, l, e)) c.args.stand c.requires,
)

pub invariant_of-self-then-place-len-2 : goal.invariant_of-self-then-place-len-2
invariant_of-self-then-place-len-2 g c = (
  c.self.invariant.0,
  kept_with g.K.Standing.stands c.self.inside.found.items c.self.invariant.1 c.args.node
      (let l = c.if-place-len.true in let e = c.len.ensures in omega (arith, l, e)) c.args.stand c.requires,
)
