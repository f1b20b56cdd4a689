use Rattle.std.proofs.Common.{◌≡◌, [], ◌∷◌, length, subst}
use Rattle.std.specs.Prelude.{MatchBool}
use Rattle.plan_model.specs.declared.steps.GroundAction.{GroundAction}
use Rattle.ground_state.specs.Runs.{Takes, Reaches}
use Rattle.ground_state.proofs.RunLaws.{same_step}
use Rattle.htn_cli.proofs.StepsTaken.{one-taken, one-fails, goal-holds, goal-fails}
use Rattle.htn_cli.proofs.checking.replayed.Goals as goal

pub returns-in-Some : goal.returns-in-Some
returns-in-Some c =
    let goes = subst (λ b. MatchBool b (c.loop-step.steps ≡ c.next.new.into ∷ c.next.new.self) (c.loop-step.steps ≡ [])) c.if-branch.true c.in_ok-next.ensures.next in
    let same = same_step c.next.new.into c.name.result.now c.args-in-loop-step.result.now c.name.ensures.name c.args-in-loop-step.ensures.args in
    let takes = subst (λ (s : GroundAction). Takes s c.loop-step.run c.take.new.self c.in_ok-why.field-0) same c.in_ok-why.ensures.taken in
    one-fails c.args.run.now.p.now (length c.args.plan.now) c.args.plan.now c.loop-step.steps c.next.new.self c.next.new.into c.loop-step.number c.loop-step.run c.take.new.self c.loop-step.invariant goes c.in-Some.why (subst (Takes c.next.new.into c.loop-step.run c.take.new.self) c.in-Some.is takes)

pub loop-step-preserved : goal.loop-step-preserved
loop-step-preserved c =
    let goes = subst (λ b. MatchBool b (c.loop-step.steps ≡ c.next.new.into ∷ c.next.new.self) (c.loop-step.steps ≡ [])) c.if-branch.true c.in_ok-next.ensures.next in
    let same = same_step c.next.new.into c.name.result.now c.args-in-loop-step.result.now c.name.ensures.name c.args-in-loop-step.ensures.args in
    let takes = subst (λ (s : GroundAction). Takes s c.loop-step.run c.take.new.self c.in_ok-why.field-0) same c.in_ok-why.ensures.taken in
    one-taken c.args.run.now.p.now (length c.args.plan.now) c.args.plan.now c.loop-step.steps c.next.new.self c.next.new.into c.loop-step.number c.loop-step.run c.take.new.self c.loop-step.invariant goes (subst (Takes c.next.new.into c.loop-step.run c.take.new.self) c.in_default.is takes)

pub returns-then-reaches_goal : goal.returns-then-reaches_goal
returns-then-reaches_goal c =
    let ended = subst (λ b. MatchBool b (c.loop-step.steps ≡ c.next.new.into ∷ c.next.new.self) (c.loop-step.steps ≡ [])) c.if-branch.false c.in_ok-next.ensures.next in
    goal-holds c.args.run.now.p.now (length c.args.plan.now) c.args.plan.now c.loop-step.steps c.loop-step.number c.loop-step.run c.loop-step.invariant ended
    (subst (Reaches c.loop-step.run) c.if-reaches_goal.true c.reaches_goal.ensures.goal)

pub returns : goal.returns
returns c =
    let ended = subst (λ b. MatchBool b (c.loop-step.steps ≡ c.next.new.into ∷ c.next.new.self) (c.loop-step.steps ≡ [])) c.if-branch.false c.in_ok-next.ensures.next in
    goal-fails c.args.run.now.p.now (length c.args.plan.now) c.args.plan.now c.loop-step.steps c.loop-step.number c.loop-step.run c.loop-step.invariant ended
    (subst (Reaches c.loop-step.run) c.if-reaches_goal.false c.reaches_goal.ensures.goal)
