use Rattle.std.proofs.Common.{arith}
use Rattle.stack_speller.proofs.TheStackSpelling.{is_width, is_spelled}
use Rattle.stack_speller.proofs.spelling.spell.Goals as goal

pub returns-then-width-cells-clause-refused : goal.returns-then-width-cells-clause-refused
returns-then-width-cells-clause-refused c = (
  is_width c.args.c.now c.requires.soundly c.requires.ordered c.args.run.now c.in_ok-width.width c.in_ok-width.ensures.width,
  c.if-width-cells.true,
)

pub returns-clause-spelled : goal.returns-clause-spelled
returns-clause-spelled c = is_spelled c.args.c.now c.requires.soundly c.requires.ordered c.args.run.now c.args.cells c.in_ok-width.width
    c.in_ok-width.ensures.width (omega (arith, c.if-width-cells.false))
