use Rattle.std.proofs.Common.{refl, arith}
use Rattle.step_reader.proofs.slots.slot_within.Goals as goal

pub returns-in-Some : goal.returns-in-Some
returns-in-Some c =
    let is = (c.in-Some.ensures.number c.in-Some.slot).0 refl in
    ((let l = is.0 in omega arith, omega arith), is.2)
