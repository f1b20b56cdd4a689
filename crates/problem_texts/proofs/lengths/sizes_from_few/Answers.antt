use Rattle.std.proofs.Common.{arith}
use Rattle.problem_texts.proofs.FewSlots.{sizes-by}
use Rattle.problem_texts.proofs.lengths.sizes_from_few.Goals as goal

pub returns : goal.returns
returns c =
    let small = c.ranges.slots.fits in
    record { sized = sizes-by c.args.rule.now c.args.c.now c.args.slots c.args.style.now c.requires.evenly (omega (arith, small)) c.in_ok-one.one c.in_ok-two.two c.in_ok-ten.ten c.length_with.result c.length_with-2.result c.in_ok-one.ensures.sized c.in_ok-two.ensures.sized c.in_ok-ten.ensures.sized c.length_with.ensures c.length_with-2.ensures }
