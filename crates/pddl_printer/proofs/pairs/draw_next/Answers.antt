use Rattle.pddl_printer.proofs.Drawn.{drawn-both}
use Rattle.pddl_printer.proofs.pairs.draw_next.Goals as goal

pub returns : goal.returns
returns g c = drawn-both g.P.Pen.draws g.met.P.Pen.composes (c.draw.ensures.drawn c.args.other.now) c.draw_open.ensures
