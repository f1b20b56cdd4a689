use Rattle.std.proofs.Common.{min, ap, ◌∙◌}
use Rattle.gap_pass.proofs.Leasts.{next_place, last_place}
use Rattle.gap_pass.proofs.least.least.Goals as goal

pub loop-place-preserved : goal.loop-place-preserved
loop-place-preserved c = next_place c.args.places.now c.loop-place.place-index c.loop-place-test.true c.args.numbers.now c.args.most
    c.loop-place.least c.min-least.result
    (c.min-least.ensures ∙ ap (min c.loop-place.least) c.number_at.ensures) c.loop-place.invariant

pub returns : goal.returns
returns c = last_place c.args.places.now c.loop-place.place-index c.args.numbers.now c.args.most c.loop-place.least
    c.loop-place-test.false c.loop-place.invariant
