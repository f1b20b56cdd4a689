use Rattle.std.proofs.Common.{arith}
use Rattle.slot_speller.proofs.TheSpelling.{is_width, is_spelled}
use Rattle.slot_speller.proofs.spelling.spell.Goals as goal

pub returns-then-width-slots-clause-refused : goal.returns-then-width-slots-clause-refused
returns-then-width-slots-clause-refused c = (
  is_width c.args.c.now c.requires.soundly c.args.run.now c.in_ok-assigned.assigned c.in_ok-assigned.ensures c.width-width.result
      c.width-width.ensures,
  c.if-width-slots.true,
)

pub returns-clause-spelled : goal.returns-clause-spelled
returns-clause-spelled c = is_spelled c.args.c.now c.requires.soundly c.args.run.now c.in_ok-assigned.assigned c.in_ok-assigned.ensures
    c.args.slots (omega (arith, c.width-width.ensures, c.if-width-slots.false))
