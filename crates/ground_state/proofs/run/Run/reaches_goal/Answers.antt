use Rattle.std.proofs.Common.{◌↔◌, IsTrue, List, ℕ, ap, subst}
use Rattle.plan_model.specs.Typing.{InType}
use Rattle.plan_model.specs.plan_meaning.Truth.{IsTrueIn}
use Rattle.plan_model.specs.plan_meaning.ClassicalPlan.{InTypeOf}
use Rattle.ground_state.specs.Frames.{Frame}
use Rattle.ground_state.specs.States.{atoms}
use Rattle.ground_state.proofs.RunLaws.{in_problem, reaches}
use Rattle.ground_state.proofs.run.Run.reaches_goal.Goals as goal

pub returns-clause-goal : goal.returns-clause-goal
returns-clause-goal c =
    let old = c.args.self.now in
    let none = ap (λ (f : Frame). f.objects) c.clear.ensures in
    let truth = in_problem (λ types objects. IsTrue c.is_true.result ↔ IsTrueIn (InType types objects) (atoms c.args.self.now.state) c.args.self.now.p.now.goal c.clear.new.self.values.items) old.p.now
    c.world-world.result.types.now c.world-world.result.objects.now c.world-world.ensures.types c.world-world.ensures.objects c.is_true.ensures.truth in
    reaches old c.is_true.result (subst (λ (os : List ℕ). IsTrue c.is_true.result ↔ IsTrueIn (InTypeOf old.p.now) (atoms old.state) old.p.now.goal os) none truth)
