use Rattle.std.proofs.Common.{add-one, length, subst, arith, ◌≤◌}
use Rattle.std.proofs.lemmas.List.{take_all}
use Rattle.plan_texts.proofs.Together.{together-length}
use Rattle.plan_placer.specs.Executed.{IsLabelOf, HasStates}
use Rattle.plan_placer.proofs.Histories.{states_first, more_states, stopped_at}
use Rattle.plan_placer.proofs.executing.executed.Goals as goal

pub loop-place-init : goal.loop-place-init
loop-place-init c labels a = states_first c.args.c.now c.in_ok-history.history c.in_ok-history.ensures.last c.in_ok-history.ensures.init

pub returns-then-not-branch-clause-stopped : goal.returns-then-not-branch-clause-stopped
returns-then-not-branch-clause-stopped c labels a = stopped_at c.args.c.now c.args.steps.now labels a c.loop-place.place
    c.loop-place-test.true c.index-steps-place.result c.index-steps-place.result c.index-steps-place.is c.loop-place.history
    c.execute.new.history c.in_ok-execute.field-0 (c.loop-place.invariant labels a) c.in_ok-execute.ensures c.if-not-branch.true
    c.args.plan.now c.as_slice-lines.result.now c.as_slice-lines.ensures.items c.requires.as_many c.index-lines-place.result

pub loop-place-preserved : goal.loop-place-preserved
loop-place-preserved c labels a = rw add-one (more_states c.args.c.now c.args.steps.now labels a c.loop-place.place
    c.loop-place-test.true c.index-steps-place.result c.index-steps-place.result c.index-steps-place.is c.loop-place.history
    c.execute.new.history c.in_ok-execute.field-0 (c.loop-place.invariant labels a) c.in_ok-execute.ensures c.if-not-branch.false)

pub returns-clause-states : goal.returns-clause-states
returns-clause-states c labels a =
    let m = together-length (IsLabelOf c.args.c.now) c.args.steps.now labels a in
    let l : length labels ≤ c.loop-place.place = omega arith in
    subst (λ z. HasStates c.args.c.now z c.loop-place.history) (take_all c.loop-place.place labels l) (c.loop-place.invariant labels a)
