use Rattle.std.proofs.Common.{arith}
use Rattle.plan_model.specs.Pairs.{Pairs}
use Rattle.stack_encoder.proofs.Neighbours.{neighbours_more, is-one, is-not-one}
use Rattle.stack_encoder.proofs.order.is_one_after_another.Goals as goal

pub loop-k-preserved : goal.loop-k-preserved
loop-k-preserved c =
    let found = c.in-Some.ensures.0 in
    (omega arith, omega (arith, found), neighbours_more (Pairs c.as_slice-pairs.result.now) c.as_slice-line.result.now c.loop-k.k c.loop-k.invariant.0 c.loop-k.invariant.2 c.in-Some.ensures.1)

pub returns-in-None : goal.returns-in-None
returns-in-None c = is-not-one c.args.plan.now c.requires c.as_slice-line.result.now c.as_slice-pairs.result.now c.as_slice-line.ensures.items c.as_slice-pairs.ensures.items c.loop-k.k c.loop-k.invariant.0 (omega arith) c.in-None.ensures

pub returns : goal.returns
returns c = is-one c.args.plan.now c.requires c.as_slice-line.result.now c.as_slice-pairs.result.now c.as_slice-line.ensures.items c.as_slice-pairs.ensures.items c.loop-k.k c.loop-k.invariant.2 (omega arith)
