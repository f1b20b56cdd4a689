use Rattle.pddl_printer.proofs.Drawn.{drawn-both}
use Rattle.pddl_printer.proofs.lower.draw_lower.Goals as goal

pub returns : goal.returns
returns g c =
    let later = c.args.later.now in
    let draws = g.P.Pen.draws in
    let composes = g.met.P.Pen.composes in
    drawn-both draws composes (c.draw.ensures.drawn later)
    (drawn-both draws composes (c.draw-2.ensures.drawn later)
    (drawn-both draws composes (c.draw-3.ensures.drawn later)
    (drawn-both draws composes (c.draw-4.ensures.drawn later)
    (drawn-both draws composes (c.draw-5.ensures.drawn later) (drawn-both draws composes c.place.ensures.drawn (c.draw-6.ensures.drawn later))))))
