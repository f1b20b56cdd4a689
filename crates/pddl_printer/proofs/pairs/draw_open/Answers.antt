use Rattle.pddl_printer.proofs.Drawn.{drawn-both}
use Rattle.pddl_printer.proofs.pairs.draw_open.Goals as goal

pub returns : goal.returns
returns g c =
    let other = c.args.other.now in
    drawn-both g.P.Pen.draws g.met.P.Pen.composes (c.draw.ensures.drawn other)
    (drawn-both g.P.Pen.draws g.met.P.Pen.composes (c.draw-2.ensures.drawn other) (drawn-both g.P.Pen.draws g.met.P.Pen.composes (c.draw-3.ensures.drawn other) c.place.ensures.drawn))
