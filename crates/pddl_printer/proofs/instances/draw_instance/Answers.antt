use Rattle.std.proofs.Common.{sym, ap}
use Rattle.pddl_printer.specs.InstanceTexts.{literal_with}
use Rattle.pddl_printer.proofs.Drawn.{drawn-as, drawn-both}
use Rattle.pddl_printer.proofs.instances.draw_instance.Goals as goal

pub returns-in-Held : goal.returns-in-Held
returns-in-Held g c =
    let word = c.args.at.word.now in
    drawn-as g.P.Pen.draws (λ w. ap (literal_with c.args.p.now c.args.scope.now c.args.at.depth w) (sym c.in-Held.is))
    (drawn-both g.P.Pen.draws g.met.P.Pen.composes (c.draw.ensures.drawn word) (drawn-both g.P.Pen.draws g.met.P.Pen.composes c.draw_inside.ensures (c.draw-in-Held.ensures.drawn word)))

pub returns-in-Denied : goal.returns-in-Denied
returns-in-Denied g c =
    let word = c.args.at.word.now in
    drawn-as g.P.Pen.draws (λ w. ap (literal_with c.args.p.now c.args.scope.now c.args.at.depth w) (sym c.in-Denied.is))
    (drawn-both g.P.Pen.draws g.met.P.Pen.composes (c.draw-in-Denied.ensures.drawn word) (drawn-both g.P.Pen.draws g.met.P.Pen.composes c.draw_inside-in-Denied.ensures (c.draw-in-Denied-2.ensures.drawn word)))

pub returns-in-Conditional : goal.returns-in-Conditional
returns-in-Conditional g c =
    let word = c.args.at.word.now in
    drawn-as g.P.Pen.draws (λ w. ap (literal_with c.args.p.now c.args.scope.now c.args.at.depth w) (sym c.in-Conditional.is))
    (drawn-both g.P.Pen.draws g.met.P.Pen.composes (c.draw-in-Conditional.ensures.drawn word) (drawn-both g.P.Pen.draws g.met.P.Pen.composes c.draw_inside-in-Conditional.ensures
    (drawn-both g.P.Pen.draws g.met.P.Pen.composes (c.draw-in-Conditional-2.ensures.drawn word) (drawn-both g.P.Pen.draws g.met.P.Pen.composes c.draw_inside-in-Conditional-2.ensures (c.draw-in-Conditional-3.ensures.drawn word)))))
