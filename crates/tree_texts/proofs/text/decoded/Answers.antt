use Rattle.std.proofs.Common.{ℕ, ◌≡◌, List, [], ◌∷◌, subst}
use Rattle.std.specs.Prelude.{MatchBool}
use Rattle.plan_model.specs.declared.steps.GroundAction.{GroundAction}
use Rattle.ground_state.proofs.RunLaws.{same_step}
use Rattle.decoding.specs.PrintedSteps.{FailsAt}
use Rattle.tree_decoder.specs.Decoding.{HasTaken, Takes}
use Rattle.tree_texts.proofs.StepsTaken.{one-taken, one-fails}
use Rattle.tree_texts.proofs.text.decoded.Goals as goal

pub returns-in-Some : goal.returns-in-Some
returns-in-Some c =
    let p = c.args.c.now in
    let goes = subst (λ b. MatchBool b (c.loop-step.steps ≡ c.next.new.into ∷ c.next.new.self) (c.loop-step.steps ≡ [])) c.if-branch.true c.in_ok-next.ensures.next in
    let same = same_step c.next.new.into c.name.result.now c.args-in-loop-step.result.now c.name.ensures.name c.args-in-loop-step.ensures.args in
    let takes = subst (λ (s : GroundAction). Takes s c.loop-step.decoder c.take.new.self c.in_ok-why.field-0) same c.in_ok-why.ensures.taken in
    let fails = subst (Takes c.next.new.into c.loop-step.decoder c.take.new.self) c.in-Some.is takes in
    record {
      decoded = tt;
      refused =
          one-fails (HasTaken p c.args.slots) c.args.plan.now c.loop-step.steps c.next.new.self c.next.new.into c.loop-step.number c.loop-step.decoder
          c.loop-step.invariant goes (λ (steps : List GroundAction) (n : ℕ). FailsAt p c.args.slots steps n c.in-Some.why) (λ taken h rest. fails p c.args.slots taken h rest);
    }

pub loop-step-preserved : goal.loop-step-preserved
loop-step-preserved c =
    let p = c.args.c.now in
    let goes = subst (λ b. MatchBool b (c.loop-step.steps ≡ c.next.new.into ∷ c.next.new.self) (c.loop-step.steps ≡ [])) c.if-branch.true c.in_ok-next.ensures.next in
    let same = same_step c.next.new.into c.name.result.now c.args-in-loop-step.result.now c.name.ensures.name c.args-in-loop-step.ensures.args in
    let takes = subst (λ (s : GroundAction). Takes s c.loop-step.decoder c.take.new.self c.in_ok-why.field-0) same c.in_ok-why.ensures.taken in
    one-taken (HasTaken p c.args.slots) c.args.plan.now c.loop-step.steps c.next.new.self c.next.new.into c.loop-step.number c.loop-step.decoder c.loop-step.invariant goes
    c.take.new.self (λ taken h. subst (Takes c.next.new.into c.loop-step.decoder c.take.new.self) c.in_default.is takes p c.args.slots taken h)
