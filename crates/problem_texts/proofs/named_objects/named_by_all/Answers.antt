use Rattle.std.proofs.Common.{arith}
use Rattle.problem_texts.proofs.Greatest.{greatest-next}
use Rattle.problem_texts.proofs.named_objects.named_by_all.Goals as goal

pub loop-item-preserved : goal.loop-item-preserved
loop-item-preserved g c =
    let next = greatest-next g.T.NamesObjects.named c.args.items.now c.loop-item.item-index c.item-item.result c.loop-item-test.true c.item-item.is in
    let before = c.loop-item.invariant in
    let it = c.named.ensures in
    let most = c.max-most.ensures in
    omega (arith, next, before, it, most)
