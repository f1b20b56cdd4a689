use Rattle.std.proofs.Common.{refl}
use Rattle.std.proofs.lemmas.Result.{on_ok_weaker}
use Rattle.plan_model.specs.Typing.{InType}
use Rattle.ground_state.specs.Frames.{frame}
use Rattle.ground_state.proofs.PassLaws.{changed}
use Rattle.ground_state.proofs.state.State.apply_in.Goals as goal

pub returns-then-is_plain-clause-after : goal.returns-then-is_plain-clause-after
returns-then-is_plain-clause-after c =
    let I = InType c.args.world.now.types.now c.args.world.now.objects.now in
    let old = c.args.self.now in
    let once = c.pass_over in
    let twice = c.pass_over-then-is_plain in
    let thrice = c.pass_over-then-is_plain-2 in
    on_ok_weaker c.pass_over-then-is_plain-3.result (λ h.
    changed I old once.new.self twice.new.self thrice.new.self c.pass_over-then-is_plain-3.new.self c.args.eff.now (frame c.args.env.now) (frame once.new.env) (frame twice.new.env) (frame thrice.new.env)
    once.ensures.kept twice.ensures.kept thrice.ensures.kept (c.in_ok-pass_over.ensures.passed old) (c.in_ok-pass_over-2.ensures.passed old) (c.in_ok-pass_over-3.ensures.passed old) (h old)
    ) c.pass_over-then-is_plain-3.ensures.passed

pub returns-then-not-self-clause-after : goal.returns-then-not-self-clause-after
returns-then-not-self-clause-after c =
    let I = InType c.args.world.now.types.now c.args.world.now.objects.now in
    let old = c.args.self.now in
    let once = c.pass_over in
    let twice = c.pass_over-then-is_plain in
    let thrice = c.pass_over-then-is_plain-2 in
    changed I old once.new.self twice.new.self thrice.new.self thrice.new.self c.args.eff.now (frame c.args.env.now) (frame once.new.env) (frame twice.new.env) (frame twice.new.env)
    once.ensures.kept twice.ensures.kept refl (c.in_ok-pass_over.ensures.passed old) (c.in_ok-pass_over-2.ensures.passed old) (c.in_ok-pass_over-3.ensures.passed old) (λ g. (λ x. x, λ x. x))
