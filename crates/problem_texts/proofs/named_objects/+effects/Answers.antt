use Rattle.std.proofs.Common.{arith}
use Rattle.slot_encoding.specs.encoded_texts.NamedObjects.{of_effect}
use Rattle.problem_texts.proofs.Greatest.{greatest-next}
use Rattle.problem_texts.proofs.named_objects.+effects.Goals as goal

pub by_effects-loop-effect-preserved : goal.by_effects-loop-effect-preserved
by_effects-loop-effect-preserved t c =
    let next = greatest-next of_effect c.args.effects.now c.loop-effect.effect-index c.effect-item.result c.loop-effect-test.true c.effect-item.is in
    let before = c.loop-effect.invariant in
    let it = c.by_effect.ensures in
    let most = c.max-most.ensures in
    omega (arith, next, before, it, most)
