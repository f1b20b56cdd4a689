use Rattle.std.proofs.Common.{Some, None, ap, sym, ◌∙◌}
use Rattle.std.proofs.lemmas.List.{append-nil}
use Rattle.std.proofs.lemmas.Result.{err_from_is_err_and}
use Rattle.text_forms.specs.Placed.{parts_at}
use Rattle.gd_reader.specs.Answers.{with_front}
use Rattle.gd_reader.specs.ShownFrom.{inside_and_behind}
use Rattle.gd_reader.proofs.Keeping.{keeps_then}
use Rattle.gd_reader.proofs.Steps.{is_none}
use Rattle.hddl_reader.specs.Sections.{applied_to, facts}
use Rattle.hddl_reader.proofs.SectionSteps.{facts_end, facts_stuck, facts_stop, facts_next}
use Rattle.hddl_reader.proofs.facts.put_each.Goals as goal

pub returns-in_err-inside-clause-gives : goal.returns-in_err-inside-clause-gives
returns-in_err-inside-clause-gives c =
    let p = err_from_is_err_and c.from_residual.result c.from_residual.ensures.1 in
    rw (p.1, p.2) (facts_stuck c.loop-inside.into c.loop-inside.names
    (parts_at c.args.s.now c.loop-inside.p.token) (with_front c.args.into.now (facts c.args.names.now (parts_at c.args.s.now c.args.p.token)))
    c.loop-inside.invariant.rest c.in_err-inside.field-0.0 c.in_err-inside.ensures.gives)

pub returns-in_err-head-clause-gives : goal.returns-in_err-head-clause-gives
returns-in_err-head-clause-gives c =
    let p = err_from_is_err_and c.from_residual-in_err-head.result c.from_residual-in_err-head.ensures.1 in
    let is = c.in-Some.is in
    let gives = c.in_ok-inside.ensures.gives in
    rw (p.1, p.2) (facts_stop c.loop-inside.into c.loop-inside.names
    (parts_at c.args.s.now c.loop-inside.p.token) (with_front c.args.into.now (facts c.args.names.now (parts_at c.args.s.now c.args.p.token)))
    c.loop-inside.invariant.rest c.in_err-head.field-0.0 (inside_and_behind c.args.s.now c.in-Some.inside.token)
    (rw is at gives) c.in_err-head.ensures.gives)

pub loop-inside-preserved-in_ok-push : goal.loop-inside-preserved-in_ok-push
loop-inside-preserved-in_ok-push c =
    let is = c.in-Some.is in
    let gives = c.in_ok-inside.ensures.gives in
    let some = c.in-Some-head.is in
    let read = c.in_ok-head.ensures.gives in
    let pushed = c.in_ok-push.ensures.pushed in
    record {
      here = c.in_ok-head.ensures.position;
      adds = λ all h old. c.in_ok-head.ensures.adds all h (c.loop-inside.invariant.adds all h old);
      keeps = keeps_then c.args.names.now c.loop-inside.names c.fact_of.new.names c.loop-inside.invariant.keeps c.in_ok-head.ensures.keeps;
      rest = rw (pushed, c.as_slice.ensures.value, c.in_ok-head.ensures.behind) (facts_next c.loop-inside.into c.loop-inside.names
          (parts_at c.args.s.now c.loop-inside.p.token) (with_front c.args.into.now (facts c.args.names.now (parts_at c.args.s.now c.args.p.token)))
          c.loop-inside.invariant.rest (inside_and_behind c.args.s.now c.in-Some.inside.token)
          (Some (applied_to c.fact_of.new.args.items c.in-Some-head.head)) c.fact_of.new.names (rw is at gives) (rw some at read));
    }

pub loop-inside-preserved : goal.loop-inside-preserved
loop-inside-preserved c =
    let is = c.in-Some.is in
    let gives = c.in_ok-inside.ensures.gives in
    let never = c.in_default-head.not-Some in
    let read = c.in_ok-head.ensures.gives in
    record {
      here = c.in_ok-head.ensures.position;
      adds = λ all h old. c.in_ok-head.ensures.adds all h (c.loop-inside.invariant.adds all h old);
      keeps = keeps_then c.args.names.now c.loop-inside.names c.fact_of.new.names c.loop-inside.invariant.keeps c.in_ok-head.ensures.keeps;
      rest = ap (λ (l : _). with_front l (facts c.fact_of.new.names (parts_at c.args.s.now c.in_ok-head.behind.token)))
          (sym (append-nil c.loop-inside.into))
          ∙ rw c.in_ok-head.ensures.behind (facts_next c.loop-inside.into c.loop-inside.names
          (parts_at c.args.s.now c.loop-inside.p.token) (with_front c.args.into.now (facts c.args.names.now (parts_at c.args.s.now c.args.p.token)))
          c.loop-inside.invariant.rest (inside_and_behind c.args.s.now c.in-Some.inside.token) None c.fact_of.new.names
          (rw is at gives) (rw (is_none c.in_ok-head.head never) at read));
    }

pub returns-clause-gives : goal.returns-clause-gives
returns-clause-gives c =
    let gives = c.in_ok-inside.ensures.gives in
    let never = c.in_default.not-Some in
    facts_end c.loop-inside.into c.loop-inside.names
    (parts_at c.args.s.now c.loop-inside.p.token) (with_front c.args.into.now (facts c.args.names.now (parts_at c.args.s.now c.args.p.token)))
    c.loop-inside.invariant.rest (rw (is_none c.in_ok-inside.field-0 never) at gives)

pub returns-in_err-head-clause-keeps : goal.returns-in_err-head-clause-keeps
returns-in_err-head-clause-keeps c = keeps_then c.args.names.now c.loop-inside.names c.fact_of.new.names c.loop-inside.invariant.keeps c.in_err-head.ensures.keeps

pub returns-in_err-push-clause-keeps : goal.returns-in_err-push-clause-keeps
returns-in_err-push-clause-keeps c = keeps_then c.args.names.now c.loop-inside.names c.fact_of.new.names c.loop-inside.invariant.keeps c.in_ok-head.ensures.keeps
