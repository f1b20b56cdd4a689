use Rattle.std.proofs.Common.{◌≡◌, ◌∷◌, ◌++◌, cond, get_or, sym, ap, ◌∙◌, subst, eq-eqb, ne_eqb}
use Rattle.plan_model.specs.declared.terms.Term.TheVariants.{Var}
use Rattle.pddl_printer.specs.InstanceTexts.{term_with, terms_with}
use Rattle.pddl_printer.specs.Texts.{term_text}
use Rattle.pddl_printer.proofs.Each.{each-more-at, each-all}
use Rattle.pddl_printer.proofs.Drawn.{drawn-as, drawn-both}
use Rattle.pddl_printer.proofs.instances.draw_inside.Goals as goal
use Rattle.pddl_printer.proofs.instances.draw_inside.Goals.{in-Var, in-Var-2, in-Obj}

pub loop-term-init : goal.loop-term-init
loop-term-init g c = g.met.P.Pen.nothing c.args.at.word.now c.draw.new.self

pub loop-term-preserved : goal.loop-term-preserved
loop-term-preserved g c =
    let p = c.args.p.now in let scope = c.args.scope.now in let depth = c.args.at.depth in let word = c.args.at.word.now in
    let terms = c.as_slice-terms.result.now in
    drawn-as g.P.Pen.draws (λ w. each-more-at (term_with p scope depth w) terms c.loop-term.term-index (Var 0) c.loop-term-test.true)
    (drawn-both g.P.Pen.draws g.met.P.Pen.composes c.loop-term.invariant
    (elim c.match-term.branch [
      | in-Var w ↦
          subst (λ pen. g.P.Pen.draws (λ u. term_with p scope depth u (get_or terms c.loop-term.term-index (Var 0))) word c.loop-term.pen pen) (sym w.pen-is)
          (drawn-as g.P.Pen.draws (λ u. ap (λ b. cond b (32 ∷ u) (term_text p scope (Var w.in-Var.k))) (sym (eq-eqb w.in-Var.k depth w.if-k-at.true)) ∙ ap (term_with p scope depth u) (sym w.in-Var.is))
          (drawn-both g.P.Pen.draws g.met.P.Pen.composes (w.draw-in-Var.ensures.drawn word) w.place.ensures.drawn))
      | in-Var-2 w ↦
          let same : w.in-Var-2.k ≡ w.in-Var.k = (let a = w.in-Var.is in let b = w.in-Var-2.is in cc) in
          subst (λ pen. g.P.Pen.draws (λ u. term_with p scope depth u (get_or terms c.loop-term.term-index (Var 0))) word c.loop-term.pen pen) (sym w.pen-is)
          (drawn-as g.P.Pen.draws
          (λ u. ap (λ z. 32 ∷ 63 ∷ z) w.word_in_force.ensures ∙ ap (λ k. term_text p scope (Var k)) same
          ∙ ap (λ b. cond b (32 ∷ u) (term_text p scope (Var w.in-Var.k))) (sym (ne_eqb w.in-Var.k depth w.if-k-at.false)) ∙ ap (term_with p scope depth u) (sym w.in-Var.is))
          (drawn-both g.P.Pen.draws g.met.P.Pen.composes (w.draw-in-Var-2.ensures.drawn word) (w.draw-in-Var-2-2.ensures.drawn word)))
      | in-Obj w ↦
          subst (λ pen. g.P.Pen.draws (λ u. term_with p scope depth u (get_or terms c.loop-term.term-index (Var 0))) word c.loop-term.pen pen) (sym w.pen-is)
          (drawn-as g.P.Pen.draws (λ u. ap (λ z. 32 ∷ z) w.object_word.ensures ∙ ap (term_with p scope depth u) (sym w.in-Obj.is))
          (drawn-both g.P.Pen.draws g.met.P.Pen.composes (w.draw-in-Obj.ensures.drawn word) (w.draw-in-Obj-2.ensures.drawn word)))
    ]))

pub returns : goal.returns
returns g c =
    let p = c.args.p.now in let scope = c.args.scope.now in let depth = c.args.at.depth in
    drawn-as g.P.Pen.draws (λ w i. c.predicate_word.ensures i ++ terms_with p scope depth w (c.as_slice-terms.ensures.items i))
    (drawn-both g.P.Pen.draws g.met.P.Pen.composes (c.draw.ensures.drawn c.args.at.word.now)
    (drawn-as g.P.Pen.draws (λ w. each-all (term_with p scope depth w) c.as_slice-terms.result.now c.loop-term.term-index c.loop-term-test.false) c.loop-term.invariant))
