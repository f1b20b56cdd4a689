use Rattle.std.proofs.Common.{arith}
use Rattle.std.proofs.lemmas.Result.{err_from_is_err_and}
use Rattle.text_forms.specs.Placed.{parts_at}
use Rattle.gd_reader.specs.Answers.{list_or_end}
use Rattle.gd_reader.specs.Formulas.{formulas, headed}
use Rattle.gd_reader.proofs.Adding.{bare_plain}
use Rattle.gd_reader.proofs.Keeping.{keeps_then, keeps_same}
use Rattle.gd_reader.proofs.Steps.{pair_behind, inside_met, formulas_is, all_end, all_stuck, all_stop, all_next, is_none, bound_is, inside_is, one_is, two_is}
use Rattle.gd_reader.proofs.formulas.+formula.Goals as goal

pub formulas_of-returns-in_err-inside-clause-gives : goal.formulas_of-returns-in_err-inside-clause-gives
formulas_of-returns-in_err-inside-clause-gives t c =
    let p = err_from_is_err_and c.from_residual.result c.from_residual.ensures.1 in
    rw (p.1, p.2) (all_stuck list_or_end pair_behind inside_met formulas formulas_is c.loop-parts.parts c.loop-parts.names (parts_at c.args.s.now c.loop-parts.i) (formulas c.args.names.now (parts_at c.args.s.now c.args.i)) c.loop-parts.invariant.rest c.in_err-inside.field-0.0 c.in_err-inside.ensures.gives)

pub formulas_of-returns-in_err-part-clause-gives : goal.formulas_of-returns-in_err-part-clause-gives
formulas_of-returns-in_err-part-clause-gives t c =
    let p = err_from_is_err_and c.from_residual-in_err-part.result c.from_residual-in_err-part.ensures.1 in
    let is = c.in-Some.is in
    let gives = c.in_ok-inside.ensures.gives in
    rw (p.1, p.2) (all_stop list_or_end pair_behind inside_met formulas formulas_is c.loop-parts.parts c.loop-parts.names (parts_at c.args.s.now c.loop-parts.i) (formulas c.args.names.now (parts_at c.args.s.now c.args.i)) c.loop-parts.invariant.rest c.in_err-part.field-0.0 (parts_at c.args.s.now c.in-Some.inside, parts_at c.args.s.now c.in-Some.behind) (rw is at gives) c.in_err-part.ensures.gives)

pub formulas_of-loop-parts-preserved : goal.formulas_of-loop-parts-preserved
formulas_of-loop-parts-preserved t c =
    let is = c.in-Some.is in
    let gives = c.in_ok-inside.ensures.gives in
    let later = c.in_ok-inside.ensures.later in
    let after = rw is at later in
    let pushed = c.in_ok-push.ensures.pushed in
    record {
      adds = λ all h old. c.in_ok-part.ensures.adds all h (c.loop-parts.invariant.adds all h old);
      rest = rw pushed (all_next list_or_end pair_behind inside_met formulas formulas_is c.loop-parts.parts c.loop-parts.names (parts_at c.args.s.now c.loop-parts.i) (formulas c.args.names.now (parts_at c.args.s.now c.args.i)) c.loop-parts.invariant.rest (parts_at c.args.s.now c.in-Some.inside, parts_at c.args.s.now c.in-Some.behind) c.in_ok-part.part c.inside_of.new.names (rw is at gives) c.in_ok-part.ensures.gives);
      keeps = keeps_then c.args.names.now c.loop-parts.names c.inside_of.new.names c.loop-parts.invariant.keeps c.in_ok-part.ensures.keeps;
      later = let start = c.loop-parts.invariant.later in omega (arith, after.2);
    }

pub formulas_of-returns-clause-gives : goal.formulas_of-returns-clause-gives
formulas_of-returns-clause-gives t c =
    let gives = c.in_ok-inside.ensures.gives in
    let never = c.in_default.not-Some in
    all_end list_or_end pair_behind inside_met formulas formulas_is c.loop-parts.parts c.loop-parts.names (parts_at c.args.s.now c.loop-parts.i) (formulas c.args.names.now (parts_at c.args.s.now c.args.i)) c.loop-parts.invariant.rest (rw (is_none c.in_ok-inside.field-0 never) at gives)

pub bound_of-returns-in_err-inside-clause-keeps : goal.bound_of-returns-in_err-inside-clause-keeps
bound_of-returns-in_err-inside-clause-keeps t c = grind (arith, keeps_same, keeps_then, bound_is)

pub bound_of-returns-in_err-inside-clause-adds : goal.bound_of-returns-in_err-inside-clause-adds
bound_of-returns-in_err-inside-clause-adds t c = grind (arith, keeps_same, keeps_then, bound_is)

pub bound_of-returns-in_err-inside-clause-gives : goal.bound_of-returns-in_err-inside-clause-gives
bound_of-returns-in_err-inside-clause-gives t c = grind (arith, keeps_same, keeps_then, bound_is)

pub bound_of-returns-in_err-vars-clause-keeps : goal.bound_of-returns-in_err-vars-clause-keeps
bound_of-returns-in_err-vars-clause-keeps t c = grind (arith, keeps_same, keeps_then, bound_is)

pub bound_of-returns-in_err-vars-clause-adds : goal.bound_of-returns-in_err-vars-clause-adds
bound_of-returns-in_err-vars-clause-adds t c = grind (arith, keeps_same, keeps_then, bound_is)

pub bound_of-returns-in_err-vars-clause-gives : goal.bound_of-returns-in_err-vars-clause-gives
bound_of-returns-in_err-vars-clause-gives t c = grind (arith, keeps_same, keeps_then, bound_is)

pub bound_of-returns-in_err-part-clause-keeps : goal.bound_of-returns-in_err-part-clause-keeps
bound_of-returns-in_err-part-clause-keeps t c = grind (arith, keeps_same, keeps_then, bound_is)

pub bound_of-returns-in_err-part-clause-adds : goal.bound_of-returns-in_err-part-clause-adds
bound_of-returns-in_err-part-clause-adds t c = grind (arith, keeps_same, keeps_then, bound_is)

pub bound_of-returns-in_err-part-clause-gives : goal.bound_of-returns-in_err-part-clause-gives
bound_of-returns-in_err-part-clause-gives t c = grind (arith, keeps_same, keeps_then, bound_is)

pub bound_of-returns-clause-keeps : goal.bound_of-returns-clause-keeps
bound_of-returns-clause-keeps t c = grind (arith, keeps_same, keeps_then, bound_is)

pub bound_of-returns-clause-adds : goal.bound_of-returns-clause-adds
bound_of-returns-clause-adds t c = grind (arith, keeps_same, keeps_then, bound_is)

pub bound_of-returns-clause-gives : goal.bound_of-returns-clause-gives
bound_of-returns-clause-gives t c = grind (arith, keeps_same, keeps_then, bound_is)

pub formulas_of-returns-in_err-inside-clause-keeps : goal.formulas_of-returns-in_err-inside-clause-keeps
formulas_of-returns-in_err-inside-clause-keeps t c = grind (arith, keeps_same, keeps_then)

pub formulas_of-returns-in_err-inside-clause-adds : goal.formulas_of-returns-in_err-inside-clause-adds
formulas_of-returns-in_err-inside-clause-adds t c = grind (arith, keeps_same, keeps_then)

pub formulas_of-returns-in_err-part-clause-keeps : goal.formulas_of-returns-in_err-part-clause-keeps
formulas_of-returns-in_err-part-clause-keeps t c = grind (arith, keeps_same, keeps_then)

pub formulas_of-returns-in_err-part-clause-adds : goal.formulas_of-returns-in_err-part-clause-adds
formulas_of-returns-in_err-part-clause-adds t c = grind (arith, keeps_same, keeps_then)

pub formulas_of-returns-in_err-push-clause-keeps : goal.formulas_of-returns-in_err-push-clause-keeps
formulas_of-returns-in_err-push-clause-keeps t c = grind (arith, keeps_same, keeps_then)

pub formulas_of-returns-in_err-push-clause-adds : goal.formulas_of-returns-in_err-push-clause-adds
formulas_of-returns-in_err-push-clause-adds t c = grind (arith, keeps_same, keeps_then)

pub formulas_of-returns-in_err-push-clause-gives : goal.formulas_of-returns-in_err-push-clause-gives
formulas_of-returns-in_err-push-clause-gives t c = grind (arith, keeps_same, keeps_then)

pub formulas_of-returns-clause-keeps : goal.formulas_of-returns-clause-keeps
formulas_of-returns-clause-keeps t c = grind (arith, keeps_same, keeps_then)

pub formulas_of-returns-clause-adds : goal.formulas_of-returns-clause-adds
formulas_of-returns-clause-adds t c = grind (arith, keeps_same, keeps_then)

pub one_of-returns-in_err-inside-clause-keeps : goal.one_of-returns-in_err-inside-clause-keeps
one_of-returns-in_err-inside-clause-keeps t c = grind (arith, keeps_same, keeps_then, one_is)

pub one_of-returns-in_err-inside-clause-adds : goal.one_of-returns-in_err-inside-clause-adds
one_of-returns-in_err-inside-clause-adds t c = grind (arith, keeps_same, keeps_then, one_is)

pub one_of-returns-in_err-inside-clause-gives : goal.one_of-returns-in_err-inside-clause-gives
one_of-returns-in_err-inside-clause-gives t c = grind (arith, keeps_same, keeps_then, one_is)

pub one_of-returns-in_err-inside_of-clause-keeps : goal.one_of-returns-in_err-inside_of-clause-keeps
one_of-returns-in_err-inside_of-clause-keeps t c = grind (arith, keeps_same, keeps_then, one_is)

pub one_of-returns-in_err-inside_of-clause-adds : goal.one_of-returns-in_err-inside_of-clause-adds
one_of-returns-in_err-inside_of-clause-adds t c = grind (arith, keeps_same, keeps_then, one_is)

pub one_of-returns-in_err-inside_of-clause-gives : goal.one_of-returns-in_err-inside_of-clause-gives
one_of-returns-in_err-inside_of-clause-gives t c = grind (arith, keeps_same, keeps_then, one_is)

pub one_of-returns-in_err-end_due-clause-keeps : goal.one_of-returns-in_err-end_due-clause-keeps
one_of-returns-in_err-end_due-clause-keeps t c = grind (arith, keeps_same, keeps_then, one_is)

pub one_of-returns-in_err-end_due-clause-adds : goal.one_of-returns-in_err-end_due-clause-adds
one_of-returns-in_err-end_due-clause-adds t c = grind (arith, keeps_same, keeps_then, one_is)

pub one_of-returns-in_err-end_due-clause-gives : goal.one_of-returns-in_err-end_due-clause-gives
one_of-returns-in_err-end_due-clause-gives t c = grind (arith, keeps_same, keeps_then, one_is)

pub one_of-returns-in_err-part-clause-keeps : goal.one_of-returns-in_err-part-clause-keeps
one_of-returns-in_err-part-clause-keeps t c = grind (arith, keeps_same, keeps_then, one_is)

pub one_of-returns-in_err-part-clause-adds : goal.one_of-returns-in_err-part-clause-adds
one_of-returns-in_err-part-clause-adds t c = grind (arith, keeps_same, keeps_then, one_is)

pub one_of-returns-in_err-part-clause-gives : goal.one_of-returns-in_err-part-clause-gives
one_of-returns-in_err-part-clause-gives t c = grind (arith, keeps_same, keeps_then, one_is)

pub one_of-returns-clause-keeps : goal.one_of-returns-clause-keeps
one_of-returns-clause-keeps t c = grind (arith, keeps_same, keeps_then, one_is)

pub one_of-returns-clause-adds : goal.one_of-returns-clause-adds
one_of-returns-clause-adds t c = grind (arith, keeps_same, keeps_then, one_is)

pub one_of-returns-clause-gives : goal.one_of-returns-clause-gives
one_of-returns-clause-gives t c = grind (arith, keeps_same, keeps_then, one_is)

pub inside_of-returns-in-Wrong-clause-adds : goal.inside_of-returns-in-Wrong-clause-adds
inside_of-returns-in-Wrong-clause-adds t c = grind (arith, keeps_same, keeps_then)

pub inside_of-returns-in-Wrong-clause-gives : goal.inside_of-returns-in-Wrong-clause-gives
unfolding headed
inside_of-returns-in-Wrong-clause-gives t c = grind (arith, keeps_same, keeps_then, inside_is)

pub inside_of-returns-in-Wrong-clause-keeps : goal.inside_of-returns-in-Wrong-clause-keeps
inside_of-returns-in-Wrong-clause-keeps t c = grind (arith, keeps_same, keeps_then)

pub inside_of-returns-in_default-clause-adds : goal.inside_of-returns-in_default-clause-adds
inside_of-returns-in_default-clause-adds t c = grind (arith, keeps_same, keeps_then)

pub inside_of-returns-in_default-clause-gives : goal.inside_of-returns-in_default-clause-gives
unfolding headed
inside_of-returns-in_default-clause-gives t c = grind (arith, keeps_same, keeps_then, inside_is)

pub inside_of-returns-in_default-clause-keeps : goal.inside_of-returns-in_default-clause-keeps
inside_of-returns-in_default-clause-keeps t c = grind (arith, keeps_same, keeps_then)

pub inside_of-returns-in_err-at-clause-adds : goal.inside_of-returns-in_err-at-clause-adds
inside_of-returns-in_err-at-clause-adds t c = grind (arith, keeps_same, keeps_then)

pub inside_of-returns-in_err-at-clause-gives : goal.inside_of-returns-in_err-at-clause-gives
unfolding headed
inside_of-returns-in_err-at-clause-gives t c = grind (arith, keeps_same, keeps_then, inside_is)

pub inside_of-returns-in_err-at-clause-keeps : goal.inside_of-returns-in_err-at-clause-keeps
inside_of-returns-in_err-at-clause-keeps t c = grind (arith, keeps_same, keeps_then)

pub inside_of-returns-in_err-atom-in-Plain-clause-adds : goal.inside_of-returns-in_err-atom-in-Plain-clause-adds
inside_of-returns-in_err-atom-in-Plain-clause-adds t c = grind (arith, keeps_same, keeps_then, bare_plain)

pub inside_of-returns-in_err-atom-in-Plain-clause-gives : goal.inside_of-returns-in_err-atom-in-Plain-clause-gives
unfolding headed
inside_of-returns-in_err-atom-in-Plain-clause-gives t c = grind (arith, keeps_same, keeps_then, inside_is)

pub inside_of-returns-in_err-atom-in-Plain-clause-keeps : goal.inside_of-returns-in_err-atom-in-Plain-clause-keeps
inside_of-returns-in_err-atom-in-Plain-clause-keeps t c = grind (arith, keeps_same, keeps_then)

pub inside_of-returns-in_err-first-in-Imply-clause-adds : goal.inside_of-returns-in_err-first-in-Imply-clause-adds
inside_of-returns-in_err-first-in-Imply-clause-adds t c = grind (arith, keeps_same, keeps_then)

pub inside_of-returns-in_err-first-in-Imply-clause-gives : goal.inside_of-returns-in_err-first-in-Imply-clause-gives
unfolding headed
inside_of-returns-in_err-first-in-Imply-clause-gives t c = grind (arith, keeps_same, keeps_then, inside_is, two_is)

pub inside_of-returns-in_err-first-in-Imply-clause-keeps : goal.inside_of-returns-in_err-first-in-Imply-clause-keeps
inside_of-returns-in_err-first-in-Imply-clause-keeps t c = grind (arith, keeps_same, keeps_then)

pub inside_of-returns-in_err-formulas_of-in-And-clause-adds : goal.inside_of-returns-in_err-formulas_of-in-And-clause-adds
inside_of-returns-in_err-formulas_of-in-And-clause-adds t c = grind (arith, keeps_same, keeps_then)

pub inside_of-returns-in_err-formulas_of-in-And-clause-gives : goal.inside_of-returns-in_err-formulas_of-in-And-clause-gives
unfolding headed
inside_of-returns-in_err-formulas_of-in-And-clause-gives t c = grind (arith, keeps_same, keeps_then, inside_is)

pub inside_of-returns-in_err-formulas_of-in-And-clause-keeps : goal.inside_of-returns-in_err-formulas_of-in-And-clause-keeps
inside_of-returns-in_err-formulas_of-in-And-clause-keeps t c = grind (arith, keeps_same, keeps_then)

pub inside_of-returns-in_err-formulas_of-in-Or-clause-adds : goal.inside_of-returns-in_err-formulas_of-in-Or-clause-adds
inside_of-returns-in_err-formulas_of-in-Or-clause-adds t c = grind (arith, keeps_same, keeps_then)

pub inside_of-returns-in_err-formulas_of-in-Or-clause-gives : goal.inside_of-returns-in_err-formulas_of-in-Or-clause-gives
unfolding headed
inside_of-returns-in_err-formulas_of-in-Or-clause-gives t c = grind (arith, keeps_same, keeps_then, inside_is)

pub inside_of-returns-in_err-formulas_of-in-Or-clause-keeps : goal.inside_of-returns-in_err-formulas_of-in-Or-clause-keeps
inside_of-returns-in_err-formulas_of-in-Or-clause-keeps t c = grind (arith, keeps_same, keeps_then)

pub inside_of-returns-in_err-inside-in-Imply-clause-adds : goal.inside_of-returns-in_err-inside-in-Imply-clause-adds
inside_of-returns-in_err-inside-in-Imply-clause-adds t c = grind (arith, keeps_same, keeps_then)

pub inside_of-returns-in_err-inside-in-Imply-clause-gives : goal.inside_of-returns-in_err-inside-in-Imply-clause-gives
unfolding headed
inside_of-returns-in_err-inside-in-Imply-clause-gives t c = grind (arith, keeps_same, keeps_then, inside_is, two_is)

pub inside_of-returns-in_err-inside-in-Imply-clause-keeps : goal.inside_of-returns-in_err-inside-in-Imply-clause-keeps
inside_of-returns-in_err-inside-in-Imply-clause-keeps t c = grind (arith, keeps_same, keeps_then)

pub inside_of-returns-in_err-inside_of-in-Imply-clause-adds : goal.inside_of-returns-in_err-inside_of-in-Imply-clause-adds
inside_of-returns-in_err-inside_of-in-Imply-clause-adds t c = grind (arith, keeps_same, keeps_then)

pub inside_of-returns-in_err-inside_of-in-Imply-clause-gives : goal.inside_of-returns-in_err-inside_of-in-Imply-clause-gives
unfolding headed
inside_of-returns-in_err-inside_of-in-Imply-clause-gives t c = grind (arith, keeps_same, keeps_then, inside_is, two_is)

pub inside_of-returns-in_err-inside_of-in-Imply-clause-keeps : goal.inside_of-returns-in_err-inside_of-in-Imply-clause-keeps
inside_of-returns-in_err-inside_of-in-Imply-clause-keeps t c = grind (arith, keeps_same, keeps_then)

pub inside_of-returns-in_err-left-in-Equal-clause-adds : goal.inside_of-returns-in_err-left-in-Equal-clause-adds
inside_of-returns-in_err-left-in-Equal-clause-adds t c = grind (arith, keeps_same, keeps_then)

pub inside_of-returns-in_err-left-in-Equal-clause-gives : goal.inside_of-returns-in_err-left-in-Equal-clause-gives
unfolding headed
inside_of-returns-in_err-left-in-Equal-clause-gives t c = grind (arith, keeps_same, keeps_then, inside_is)

pub inside_of-returns-in_err-left-in-Equal-clause-keeps : goal.inside_of-returns-in_err-left-in-Equal-clause-keeps
inside_of-returns-in_err-left-in-Equal-clause-keeps t c = grind (arith, keeps_same, keeps_then)

pub inside_of-returns-in_err-one_of-in-Not-clause-adds : goal.inside_of-returns-in_err-one_of-in-Not-clause-adds
inside_of-returns-in_err-one_of-in-Not-clause-adds t c = grind (arith, keeps_same, keeps_then)

pub inside_of-returns-in_err-one_of-in-Not-clause-gives : goal.inside_of-returns-in_err-one_of-in-Not-clause-gives
unfolding headed
inside_of-returns-in_err-one_of-in-Not-clause-gives t c = grind (arith, keeps_same, keeps_then, inside_is)

pub inside_of-returns-in_err-one_of-in-Not-clause-keeps : goal.inside_of-returns-in_err-one_of-in-Not-clause-keeps
inside_of-returns-in_err-one_of-in-Not-clause-keeps t c = grind (arith, keeps_same, keeps_then)

pub inside_of-returns-in_err-second-in-Imply-clause-adds : goal.inside_of-returns-in_err-second-in-Imply-clause-adds
inside_of-returns-in_err-second-in-Imply-clause-adds t c = grind (arith, keeps_same, keeps_then)

pub inside_of-returns-in_err-second-in-Imply-clause-gives : goal.inside_of-returns-in_err-second-in-Imply-clause-gives
unfolding headed
inside_of-returns-in_err-second-in-Imply-clause-gives t c = grind (arith, keeps_same, keeps_then, inside_is, two_is)

pub inside_of-returns-in_err-second-in-Imply-clause-keeps : goal.inside_of-returns-in_err-second-in-Imply-clause-keeps
inside_of-returns-in_err-second-in-Imply-clause-keeps t c = grind (arith, keeps_same, keeps_then)

pub inside_of-returns-in_err-vars-in-Exists-clause-adds : goal.inside_of-returns-in_err-vars-in-Exists-clause-adds
inside_of-returns-in_err-vars-in-Exists-clause-adds t c = grind (arith, keeps_same, keeps_then)

pub inside_of-returns-in_err-vars-in-Exists-clause-gives : goal.inside_of-returns-in_err-vars-in-Exists-clause-gives
unfolding headed
inside_of-returns-in_err-vars-in-Exists-clause-gives t c = grind (arith, keeps_same, keeps_then, inside_is)

pub inside_of-returns-in_err-vars-in-Exists-clause-keeps : goal.inside_of-returns-in_err-vars-in-Exists-clause-keeps
inside_of-returns-in_err-vars-in-Exists-clause-keeps t c = grind (arith, keeps_same, keeps_then)

pub inside_of-returns-in_err-vars-in-Forall-clause-adds : goal.inside_of-returns-in_err-vars-in-Forall-clause-adds
inside_of-returns-in_err-vars-in-Forall-clause-adds t c = grind (arith, keeps_same, keeps_then)

pub inside_of-returns-in_err-vars-in-Forall-clause-gives : goal.inside_of-returns-in_err-vars-in-Forall-clause-gives
unfolding headed
inside_of-returns-in_err-vars-in-Forall-clause-gives t c = grind (arith, keeps_same, keeps_then, inside_is)

pub inside_of-returns-in_err-vars-in-Forall-clause-keeps : goal.inside_of-returns-in_err-vars-in-Forall-clause-keeps
inside_of-returns-in_err-vars-in-Forall-clause-keeps t c = grind (arith, keeps_same, keeps_then)

pub inside_of-returns-in_ok-atom-in-Plain-clause-adds : goal.inside_of-returns-in_ok-atom-in-Plain-clause-adds
inside_of-returns-in_ok-atom-in-Plain-clause-adds t c = grind (arith, keeps_same, keeps_then, bare_plain)

pub inside_of-returns-in_ok-atom-in-Plain-clause-gives : goal.inside_of-returns-in_ok-atom-in-Plain-clause-gives
unfolding headed
inside_of-returns-in_ok-atom-in-Plain-clause-gives t c = grind (arith, keeps_same, keeps_then, inside_is)

pub inside_of-returns-in_ok-atom-in-Plain-clause-keeps : goal.inside_of-returns-in_ok-atom-in-Plain-clause-keeps
inside_of-returns-in_ok-atom-in-Plain-clause-keeps t c = grind (arith, keeps_same, keeps_then)

pub inside_of-returns-in_ok-formulas_of-in-And-clause-adds : goal.inside_of-returns-in_ok-formulas_of-in-And-clause-adds
inside_of-returns-in_ok-formulas_of-in-And-clause-adds t c = grind (arith, keeps_same, keeps_then)

pub inside_of-returns-in_ok-formulas_of-in-And-clause-gives : goal.inside_of-returns-in_ok-formulas_of-in-And-clause-gives
unfolding headed
inside_of-returns-in_ok-formulas_of-in-And-clause-gives t c = grind (arith, keeps_same, keeps_then, inside_is)

pub inside_of-returns-in_ok-formulas_of-in-And-clause-keeps : goal.inside_of-returns-in_ok-formulas_of-in-And-clause-keeps
inside_of-returns-in_ok-formulas_of-in-And-clause-keeps t c = grind (arith, keeps_same, keeps_then)

pub inside_of-returns-in_ok-formulas_of-in-Or-clause-adds : goal.inside_of-returns-in_ok-formulas_of-in-Or-clause-adds
inside_of-returns-in_ok-formulas_of-in-Or-clause-adds t c = grind (arith, keeps_same, keeps_then)

pub inside_of-returns-in_ok-formulas_of-in-Or-clause-gives : goal.inside_of-returns-in_ok-formulas_of-in-Or-clause-gives
unfolding headed
inside_of-returns-in_ok-formulas_of-in-Or-clause-gives t c = grind (arith, keeps_same, keeps_then, inside_is)

pub inside_of-returns-in_ok-formulas_of-in-Or-clause-keeps : goal.inside_of-returns-in_ok-formulas_of-in-Or-clause-keeps
inside_of-returns-in_ok-formulas_of-in-Or-clause-keeps t c = grind (arith, keeps_same, keeps_then)

pub inside_of-returns-in_ok-left-in-Equal-clause-adds : goal.inside_of-returns-in_ok-left-in-Equal-clause-adds
inside_of-returns-in_ok-left-in-Equal-clause-adds t c = grind (arith, keeps_same, keeps_then)

pub inside_of-returns-in_ok-left-in-Equal-clause-gives : goal.inside_of-returns-in_ok-left-in-Equal-clause-gives
unfolding headed
inside_of-returns-in_ok-left-in-Equal-clause-gives t c = grind (arith, keeps_same, keeps_then, inside_is)

pub inside_of-returns-in_ok-left-in-Equal-clause-keeps : goal.inside_of-returns-in_ok-left-in-Equal-clause-keeps
inside_of-returns-in_ok-left-in-Equal-clause-keeps t c = grind (arith, keeps_same, keeps_then)

pub inside_of-returns-in_ok-one_of-in-Not-clause-adds : goal.inside_of-returns-in_ok-one_of-in-Not-clause-adds
inside_of-returns-in_ok-one_of-in-Not-clause-adds t c = grind (arith, keeps_same, keeps_then)

pub inside_of-returns-in_ok-one_of-in-Not-clause-gives : goal.inside_of-returns-in_ok-one_of-in-Not-clause-gives
unfolding headed
inside_of-returns-in_ok-one_of-in-Not-clause-gives t c = grind (arith, keeps_same, keeps_then, inside_is)

pub inside_of-returns-in_ok-one_of-in-Not-clause-keeps : goal.inside_of-returns-in_ok-one_of-in-Not-clause-keeps
inside_of-returns-in_ok-one_of-in-Not-clause-keeps t c = grind (arith, keeps_same, keeps_then)

pub inside_of-returns-in_ok-second-in-Imply-clause-adds : goal.inside_of-returns-in_ok-second-in-Imply-clause-adds
inside_of-returns-in_ok-second-in-Imply-clause-adds t c = grind (arith, keeps_same, keeps_then)

pub inside_of-returns-in_ok-second-in-Imply-clause-gives : goal.inside_of-returns-in_ok-second-in-Imply-clause-gives
unfolding headed
inside_of-returns-in_ok-second-in-Imply-clause-gives t c = grind (arith, keeps_same, keeps_then, inside_is, two_is)

pub inside_of-returns-in_ok-second-in-Imply-clause-keeps : goal.inside_of-returns-in_ok-second-in-Imply-clause-keeps
inside_of-returns-in_ok-second-in-Imply-clause-keeps t c = grind (arith, keeps_same, keeps_then)

pub inside_of-returns-in_ok-vars-in-Exists-clause-adds : goal.inside_of-returns-in_ok-vars-in-Exists-clause-adds
inside_of-returns-in_ok-vars-in-Exists-clause-adds t c = grind (arith, keeps_same, keeps_then)

pub inside_of-returns-in_ok-vars-in-Exists-clause-gives : goal.inside_of-returns-in_ok-vars-in-Exists-clause-gives
unfolding headed
inside_of-returns-in_ok-vars-in-Exists-clause-gives t c = grind (arith, keeps_same, keeps_then, inside_is)

pub inside_of-returns-in_ok-vars-in-Exists-clause-keeps : goal.inside_of-returns-in_ok-vars-in-Exists-clause-keeps
inside_of-returns-in_ok-vars-in-Exists-clause-keeps t c = grind (arith, keeps_same, keeps_then)

pub inside_of-returns-in_ok-vars-in-Forall-clause-adds : goal.inside_of-returns-in_ok-vars-in-Forall-clause-adds
inside_of-returns-in_ok-vars-in-Forall-clause-adds t c = grind (arith, keeps_same, keeps_then)

pub inside_of-returns-in_ok-vars-in-Forall-clause-gives : goal.inside_of-returns-in_ok-vars-in-Forall-clause-gives
unfolding headed
inside_of-returns-in_ok-vars-in-Forall-clause-gives t c = grind (arith, keeps_same, keeps_then, inside_is)

pub inside_of-returns-in_ok-vars-in-Forall-clause-keeps : goal.inside_of-returns-in_ok-vars-in-Forall-clause-keeps
inside_of-returns-in_ok-vars-in-Forall-clause-keeps t c = grind (arith, keeps_same, keeps_then)
