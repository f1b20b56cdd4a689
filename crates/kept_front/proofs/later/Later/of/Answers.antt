use Rattle.std.proofs.Common.{◌≡◌, length, ap, arith}
use Rattle.kept_front.proofs.LaterLaws.{few_read}
use Rattle.kept_front.proofs.later.Later.of.Goals as goal

pub overflow_add-index_mut : goal.overflow_add-index_mut
overflow_add-index_mut c =
    let s = few_read (length c.args.plan.now.schema.children) c.loop-pair.counts.items c.args.plan.now.schema.pairs c.as_slice-pair-items.result.now c.loop-pair.pair-index c.index_mut-in-loop-pair.result.now
    (record { first = 0; then = 0 }) c.requires.below c.loop-pair.invariant.counts_room c.as_slice-pair-items.ensures.items c.loop-pair-test.true c.loop-pair.invariant.counted c.index_mut-in-loop-pair.ensures.value in
    let f = c.requires.few in
    let l = c.loop-pair-test.true in
    let e : length c.as_slice-pair-items.result.now ≡ length c.args.plan.now.schema.pairs = ap length c.as_slice-pair-items.ensures.items in
    omega arith
