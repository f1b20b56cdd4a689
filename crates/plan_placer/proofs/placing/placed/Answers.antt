use Rattle.std.proofs.Common.{length, ap, ◌∙◌}
use Rattle.std.proofs.lemmas.Result.{IfOk-weaker, IfErr-weaker}
use Rattle.plan_placer.specs.Placing.{RefusesPlace}
use Rattle.plan_placer.proofs.Refusals.{many_steps}
use Rattle.plan_placer.proofs.Placed.{passed_on, is_reached, is_refused}
use Rattle.plan_placer.proofs.placing.placed.Goals as goal

pub reached-requires-clause-as_many : goal.reached-requires-clause-as_many
reached-requires-clause-as_many c =
    ap length c.as_slice.ensures.items ∙ many_steps c.args.c.now c.args.plan.now c.in_ok-lines.lines c.in_ok-lines.ensures.lines

pub returns-in_err-history-clause-refused : goal.returns-in_err-history-clause-refused
returns-in_err-history-clause-refused c =
    passed_on c.from_residual-in_err-history.result (RefusesPlace c.args.c.now c.args.plan.now) _ c.from_residual-in_err-history.ensures.1
    (is_refused c.args.c.now c.requires.soundly c.args.plan.now c.in_ok-lines.lines c.in_ok-lines.ensures.lines c.in_ok-tree.tree
    c.in_ok-tree.ensures.tree c.as_slice.result.now c.as_slice.ensures.items _ c.in_err-history.ensures.stopped)

pub returns-clause-placed : goal.returns-clause-placed
returns-clause-placed c =
    let r = is_reached c.args.c.now c.requires.soundly c.args.plan.now c.in_ok-lines.lines c.in_ok-lines.ensures.lines c.in_ok-tree.tree
    c.in_ok-tree.ensures.tree c.as_slice.result.now c.as_slice.ensures.items c.in_ok-history.history c.in_ok-history.ensures.reach in
    IfOk-weaker c.scheduled.result _ _ (λ run f. f c.args.plan.now r) c.scheduled.ensures.scheduled

pub returns-clause-refused : goal.returns-clause-refused
returns-clause-refused c =
    let r = is_reached c.args.c.now c.requires.soundly c.args.plan.now c.in_ok-lines.lines c.in_ok-lines.ensures.lines c.in_ok-tree.tree
    c.in_ok-tree.ensures.tree c.as_slice.result.now c.as_slice.ensures.items c.in_ok-history.history c.in_ok-history.ensures.reach in
    IfErr-weaker c.scheduled.result _ _ (λ error f. f c.args.plan.now r) c.scheduled.ensures.refused
