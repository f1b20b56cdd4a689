use Rattle.std.proofs.Common.{take}
use Rattle.pddl_printer.specs.InstanceTexts.{terms_with}
use Rattle.pddl_printer.proofs.instances.draw_inside.Given as goal

abbrev pub invariant-loop-term : goal.invariant-loop-term
invariant-loop-term g l = g.P.Pen.draws (λ w. terms_with l.p l.scope l.at.depth w (take l.term-index l.terms)) l.at.word.now l.initial.pen l.pen
