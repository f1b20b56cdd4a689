use Rattle.std.proofs.Common.{◌<◌, length, get_or, get_or-take, length-take, sym, subst, ◌∙◌, arith}
use Rattle.std.proofs.lemmas.List.Elements.{Contains-get_or}
use Rattle.plan_model.specs.net_order.Marks.{Marked}
use Rattle.plan_model.proofs.net_order.Whole.{child_of}
use Rattle.plan_model.proofs.net_order.Closing.{child_within, closed_on, closed_more, closed_all}
use Rattle.plan_model.proofs.net_order.closure.close.Goals as goal

pub gather-requires-clause-within : goal.gather-requires-clause-within
gather-requires-clause-within c =
    let l = child_within c.args.before.now c.args.line.now c.requires.line c.loop-q.q c.loop-q-test.true c.loop-q.before c.loop-q.invariant in
    let e = c.loop-q.auto.before in
    omega arith

pub gather-requires-clause-earlier : goal.gather-requires-clause-earlier
gather-requires-clause-earlier c k d l =
    let line = c.args.line.now in
    let n = length-take c.loop-q.q c.args.line.now in
    let e = c.loop-q.auto.before in
    let b = child_of (Marked c.args.before.now) (length c.args.before.now) line c.requires.line.each (get_or line k d) (Contains-get_or line k d (omega arith)) in
    subst (λ x. x < length c.loop-q.before) (sym (get_or-take c.loop-q.q line k d (omega arith))) (omega arith)

pub gather-requires-clause-closed : goal.gather-requires-clause-closed
gather-requires-clause-closed c = closed_on c.args.before.now c.args.line.now c.requires.line c.loop-q.q c.loop-q-test.true c.loop-q.before c.loop-q.invariant

pub bounds-before-child : goal.bounds-before-child
bounds-before-child c =
    let l = child_within c.args.before.now c.args.line.now c.requires.line c.loop-q.q c.loop-q-test.true c.loop-q.before c.loop-q.invariant in
    let e = c.loop-q.auto.before in
    omega arith

pub loop-q-preserved : goal.loop-q-preserved
loop-q-preserved c = closed_more c.args.before.now c.args.line.now c.requires.line c.loop-q.q c.loop-q-test.true c.loop-q.before c.loop-q.invariant c.in_ok-set.set (c.in_ok-set.ensures.room ∙ c.loop-q.auto.before) c.in_ok-set.ensures.gathered

pub returns : goal.returns
returns c = record { closed = closed_all c.args.before.now c.args.line.now c.requires.line c.loop-q.q c.loop-q-test.false c.loop-q.before c.loop-q.invariant }
