use Rattle.std.proofs.Common.{◌<◌, List, All, length, get_or, ap, subst, arith}
use Rattle.std.proofs.lemmas.List.{take_all}
use Rattle.std.proofs.lemmas.List.Elements.{All-more}
use Rattle.plan_model.specs.declared.schemas.MethodPlan.{MethodPlan}
use Rattle.plan_model.specs.plan_meaning.Network.{top_task}
use Rattle.printed_rows.specs.Ready.{IsReady}
use Rattle.printed_rows.proofs.Readiness.{ready_all}
use Rattle.printed_rows.proofs.ready.are_ready.Goals as goal

pub loop-plan-preserved : goal.loop-plan-preserved
loop-plan-preserved c =
    let top = top_task c.args.c.now in
    let plan : MethodPlan = c.plan-item.result in
    let items = c.as_slice-plan-items.ensures.items in
    let ready = subst (λ t. IsReady t plan) c.len-top.ensures.length (c.in_ok-is_ready.ensures.ready c.if-not-branch.false) in
    All-more (IsReady top) c.args.c.now.methods c.loop-plan.plan-index plan (subst (λ (s : List MethodPlan). c.loop-plan.plan-index < length s) items c.loop-plan-test.true) c.loop-plan.invariant
    (subst (λ (s : List MethodPlan). IsReady top (get_or s c.loop-plan.plan-index plan)) items (subst (IsReady top) c.plan-item.is ready))

pub returns : goal.returns
returns c = record {
  ready = λ t. ready_all c.args.c.now (let e = c.len-top.ensures.length in let l = c.if-top-gt4294967295.false in omega arith) (let e = c.len.ensures.length in let l = c.if-len-gt4294967295.false in omega arith)
      (subst (All (IsReady (top_task c.args.c.now))) (take_all c.loop-plan.plan-index c.args.c.now.methods (let e = ap length c.as_slice-plan-items.ensures.items in let l = c.loop-plan-test.false in omega arith)) c.loop-plan.invariant);
}
