use Rattle.std.proofs.lemmas.Result.{err_from_is_err_and}
use Rattle.htn_base.specs.Words.{folded}
use Rattle.text_forms.specs.Placed.{parts_at}
use Rattle.gd_reader.specs.Answers.{word_or_end}
use Rattle.gd_reader.specs.Terms.{terms}
use Rattle.gd_reader.proofs.Keeping.{keeps_then, keeps_same}
use Rattle.gd_reader.proofs.Steps.{met_behind, term_met, terms_is, all_end, all_stuck, all_stop, all_next, is_none}
use Rattle.std.proofs.Common.{arith}
use Rattle.gd_reader.proofs.term.terms_of.Goals as goal

pub returns-in_err-at-clause-gives : goal.returns-in_err-at-clause-gives
returns-in_err-at-clause-gives c =
    let p = err_from_is_err_and c.from_residual.result c.from_residual.ensures.1 in
    rw (p.1, p.2) (all_stuck word_or_end met_behind term_met terms terms_is c.loop-terms.terms c.loop-terms.names (parts_at c.args.s.now c.loop-terms.i) (terms c.args.names.now (parts_at c.args.s.now c.args.i)) c.loop-terms.invariant.rest c.in_err-at.field-0.0 c.in_err-at.ensures.gives)

pub returns-in_err-term-clause-gives : goal.returns-in_err-term-clause-gives
returns-in_err-term-clause-gives c =
    let p = err_from_is_err_and c.from_residual-in_err-term.result c.from_residual-in_err-term.ensures.1 in
    let is = c.in-Some.is in
    let gives = c.in_ok-at.ensures.gives in
    rw (p.1, p.2) (all_stop word_or_end met_behind term_met terms terms_is c.loop-terms.terms c.loop-terms.names (parts_at c.args.s.now c.loop-terms.i) (terms c.args.names.now (parts_at c.args.s.now c.args.i)) c.loop-terms.invariant.rest c.in_err-term.field-0.0 (c.in-Some.at, folded c.in-Some.word.now, parts_at c.args.s.now c.in-Some.behind) (rw is at gives) c.in_err-term.ensures.gives)

pub loop-terms-preserved : goal.loop-terms-preserved
loop-terms-preserved c =
    let is = c.in-Some.is in
    let gives = c.in_ok-at.ensures.gives in
    let pushed = c.in_ok-push.ensures.pushed in
    let said = c.in_ok-at.ensures.said in
    let says = rw is at said in
    record {
      adds = λ all h old. c.in_ok-term.ensures.adds all (says all h) (c.loop-terms.invariant.adds all h old);
      keeps = keeps_then c.args.names.now c.loop-terms.names c.term_of.new.names c.loop-terms.invariant.keeps c.in_ok-term.ensures.keeps;
      rest = rw pushed (all_next word_or_end met_behind term_met terms terms_is c.loop-terms.terms c.loop-terms.names (parts_at c.args.s.now c.loop-terms.i) (terms c.args.names.now (parts_at c.args.s.now c.args.i)) c.loop-terms.invariant.rest (c.in-Some.at, folded c.in-Some.word.now, parts_at c.args.s.now c.in-Some.behind) c.in_ok-term.term c.term_of.new.names (rw is at gives) c.in_ok-term.ensures.gives);
    }

pub returns-clause-gives : goal.returns-clause-gives
returns-clause-gives c =
    let gives = c.in_ok-at.ensures.gives in
    let never = c.in_default.not-Some in
    all_end word_or_end met_behind term_met terms terms_is c.loop-terms.terms c.loop-terms.names (parts_at c.args.s.now c.loop-terms.i) (terms c.args.names.now (parts_at c.args.s.now c.args.i)) c.loop-terms.invariant.rest (rw (is_none c.in_ok-at.field-0 never) at gives)

pub returns-in_err-at-clause-keeps : goal.returns-in_err-at-clause-keeps
returns-in_err-at-clause-keeps c = grind (arith, keeps_same, keeps_then)

pub returns-in_err-at-clause-adds : goal.returns-in_err-at-clause-adds
returns-in_err-at-clause-adds c = grind (arith, keeps_same, keeps_then)

pub returns-in_err-term-clause-keeps : goal.returns-in_err-term-clause-keeps
returns-in_err-term-clause-keeps c = grind (arith, keeps_same, keeps_then)

pub returns-in_err-term-clause-adds : goal.returns-in_err-term-clause-adds
returns-in_err-term-clause-adds c = grind (arith, keeps_same, keeps_then)

pub returns-in_err-push-clause-keeps : goal.returns-in_err-push-clause-keeps
returns-in_err-push-clause-keeps c = grind (arith, keeps_same, keeps_then)

pub returns-in_err-push-clause-adds : goal.returns-in_err-push-clause-adds
returns-in_err-push-clause-adds c = grind (arith, keeps_same, keeps_then)

pub returns-in_err-push-clause-gives : goal.returns-in_err-push-clause-gives
returns-in_err-push-clause-gives c = grind (arith, keeps_same, keeps_then)

pub returns-clause-keeps : goal.returns-clause-keeps
returns-clause-keeps c = grind (arith, keeps_same, keeps_then)

pub returns-clause-adds : goal.returns-clause-adds
returns-clause-adds c = grind (arith, keeps_same, keeps_then)
