use Rattle.std.proofs.Common.{◌∙◌, arith}
use Rattle.std.proofs.lemmas.Result.{err_from_is_err_and}
use Rattle.htn_base.specs.Words.{folded}
use Rattle.text_forms.specs.Placed.{parts_at}
use Rattle.gd_reader.specs.Answers.{word_or_end}
use Rattle.hddl_reader.specs.Sections.{used_names}
use Rattle.gd_reader.proofs.Keeping.{keeps_then}
use Rattle.gd_reader.proofs.Steps.{met_behind, all_end, all_stuck, all_stop, all_next}
use Rattle.hddl_reader.proofs.SectionSteps.{used_met, used_names_is}
use Rattle.hddl_reader.proofs.facts.used_names_of.Goals as goal

pub returns-in_err-at-clause-gives : goal.returns-in_err-at-clause-gives
returns-in_err-at-clause-gives c =
    let p = err_from_is_err_and c.from_residual.result c.from_residual.ensures.1 in
    rw (p.1, p.2) (all_stuck word_or_end met_behind used_met used_names used_names_is c.loop-at.used.items c.loop-at.names
    (parts_at c.args.s.now c.loop-at.p.token) (used_names c.args.names.now (parts_at c.args.s.now c.args.p.token)) c.loop-at.invariant.rest
    c.in_err-at.field-0.0 c.in_err-at.ensures.gives)

pub returns-in_err-name-in-Word-clause-gives : goal.returns-in_err-name-in-Word-clause-gives
returns-in_err-name-in-Word-clause-gives c =
    let p = err_from_is_err_and c.from_residual-in_err-name-in-Word.result c.from_residual-in_err-name-in-Word.ensures.1 in
    let is = c.in-Word.is in
    let gives = c.in_ok-at.ensures.gives in
    rw (p.1, p.2) (all_stop word_or_end met_behind used_met used_names used_names_is c.loop-at.used.items c.loop-at.names
    (parts_at c.args.s.now c.loop-at.p.token) (used_names c.args.names.now (parts_at c.args.s.now c.args.p.token)) c.loop-at.invariant.rest
    c.in_err-name-in-Word.field-0.0 (c.in-Word.at, folded c.in-Word.word.now, parts_at c.args.s.now c.in-Word.next.token)
    (rw is at gives) c.in_err-name-in-Word.ensures.gives)

pub loop-at-preserved : goal.loop-at-preserved
loop-at-preserved c =
    let is = c.in-Word.is in
    let met = c.in_ok-at.ensures in
    let gives = met.gives in
    let position = met.position in
    let later = met.later in
    let behind = met.behind in
    let said = met.said in
    let says = rw is at said in
    let named = c.in_ok-name-in-Word in
    let pushed = c.in_ok-push-in-Word.ensures.items in
    let new = c.marked_used_of.new.names in
    record {
      here = rw is at position;
      later = let more = rw is at later in let so_far = c.loop-at.invariant.later in omega (arith, more.0);
      behind = (rw is at behind) ∙ c.loop-at.invariant.behind;
      adds = λ all h old. named.ensures.adds all (says all h) (c.loop-at.invariant.adds all h old);
      keeps = keeps_then c.args.names.now c.loop-at.names new c.loop-at.invariant.keeps named.ensures.keeps;
      rest = rw pushed (all_next word_or_end met_behind used_met used_names used_names_is c.loop-at.used.items c.loop-at.names
          (parts_at c.args.s.now c.loop-at.p.token) (used_names c.args.names.now (parts_at c.args.s.now c.args.p.token))
          c.loop-at.invariant.rest (c.in-Word.at, folded c.in-Word.word.now, parts_at c.args.s.now c.in-Word.next.token)
          named.name new (rw is at gives) named.ensures.gives);
    }

pub returns-in-End-clause-gives : goal.returns-in-End-clause-gives
returns-in-End-clause-gives c =
    let is = c.in-End.is in
    let gives = c.in_ok-at.ensures.gives in
    all_end word_or_end met_behind used_met used_names used_names_is c.loop-at.used.items c.loop-at.names
    (parts_at c.args.s.now c.loop-at.p.token) (used_names c.args.names.now (parts_at c.args.s.now c.args.p.token)) c.loop-at.invariant.rest
    (rw is at gives)

pub returns-in-End-clause-later : goal.returns-in-End-clause-later
returns-in-End-clause-later c =
    let is = c.in-End.is in
    let later = c.in_ok-at.ensures.later in
    let more = rw is at later in
    let so_far = c.loop-at.invariant.later in
    (omega (arith, more.0), more.1)

pub returns-in-End-clause-behind : goal.returns-in-End-clause-behind
returns-in-End-clause-behind c =
    let is = c.in-End.is in
    let behind = c.in_ok-at.ensures.behind in
    (rw is at behind) ∙ c.loop-at.invariant.behind

pub returns-in_err-name-in-Word-clause-keeps : goal.returns-in_err-name-in-Word-clause-keeps
returns-in_err-name-in-Word-clause-keeps c = keeps_then c.args.names.now c.loop-at.names c.marked_used_of.new.names c.loop-at.invariant.keeps c.in_err-name-in-Word.ensures.keeps

pub returns-in_err-push-in-Word-clause-keeps : goal.returns-in_err-push-in-Word-clause-keeps
returns-in_err-push-in-Word-clause-keeps c = keeps_then c.args.names.now c.loop-at.names c.marked_used_of.new.names c.loop-at.invariant.keeps c.in_ok-name-in-Word.ensures.keeps
