use Rattle.std.proofs.Common.{◌≡◌, ◌≤◌, ◌↔◌, IsTrue, List, length, refl, sym, subst, ◌∙◌, true≢false}
use Rattle.std.proofs.lemmas.Result.{IfOk-from_err}
use Rattle.std.specs.Vec.{vec_capacity}
use Rattle.plan_model.specs.declared.terms.Param.{Param}
use Rattle.plan_model.specs.Typing.{InType}
use Rattle.plan_model.specs.plan_meaning.Truth.{IsTrueIn, after}
use Rattle.plan_model.specs.plan_meaning.ClassicalPlan.{InTypeOf}
use Rattle.plan_model.specs.declared.causes.FailWhy.TheVariants as why
use Rattle.problem_index.specs.declared.world.World.{World}
use Rattle.problem_index.specs.Index.{AreOf}
use Rattle.ground_state.specs.declared.run.Run.{Run}
use Rattle.ground_state.specs.Frames.{Frame, frame}
use Rattle.ground_state.specs.Room.{EffectFits}
use Rattle.ground_state.specs.States.{atoms, Has}
use Rattle.ground_state.specs.Runs.{texts, words_step, IsAsRoomy, IsReady}
use Rattle.ground_state.proofs.PassLaws.{on_error}
use Rattle.ground_state.proofs.RunLaws as laws
use Rattle.ground_state.proofs.run.Run.take.Goals as goal

-- the index and the world of a run are its problem's
are : (run : Run) (world : World) → IsReady run → world.types.now ≡ run.p.now.types → world.objects.now ≡ run.p.now.objects → AreOf run.p.now run.index world
are run world ready types objects = record { apart = ready.runnable.apart; indexed = ready.index; types = types; objects = objects }

pub returns-in_default-clause-taken : goal.returns-in_default-clause-taken
returns-in_default-clause-taken c = laws.fails c.args.self.now (words_step c.args.name.now c.args.args.now) why.UnknownAction (c.in_default.ensures (texts c.args.args.now))

pub fill-requires-clause-room : goal.fill-requires-clause-room
fill-requires-clause-room c =
    let named = c.in-Some.ensures (texts c.args.args.now) in
    subst (λ (ps : List Param). length ps ≤ vec_capacity c.args.self.now.env.values) (sym c.as_slice-params.ensures.items) (c.requires.ready.room.actions c.in-Some.action.now named.action).params

pub returns-then-not-fill-clause-taken : goal.returns-then-not-fill-clause-taken
returns-then-not-fill-clause-taken c =
    let old = c.args.self.now in
    let p = old.p.now in
    let a = c.in-Some.action.now in
    let words = texts c.args.args.now in
    let step = words_step c.args.name.now c.args.args.now in
    laws.fails old step why.Arguments
    (laws.arguments_fail p step a (c.in-Some.ensures words) c.requires.ready.runnable.apart (atoms old.state)
    (λ os args. c.if-not-fill.ensures.filled p (are c.args.self.now c.world-world.result c.requires.ready c.world-world.ensures.types c.world-world.ensures.objects) os (laws.same_arguments p a.params c.as_slice-params.result.now words words os (sym c.as_slice-params.ensures.items) refl args)))

pub is_true-requires-clause-room : goal.is_true-requires-clause-room
is_true-requires-clause-room c =
    let old = c.args.self.now in
    let p = old.p.now in
    let a = c.in-Some.action.now in
    let words = texts c.args.args.now in
    let args = laws.same_arguments p c.as_slice-params.result.now a.params words words c.fill.new.env.values.items c.as_slice-params.ensures.items refl (c.if-not-fill.ensures.filled p (are c.args.self.now c.world-world.result c.requires.ready c.world-world.ensures.types c.world-world.ensures.objects)) in
    laws.room_for_pre p (words_step c.args.name.now c.args.args.now) a (c.in-Some.ensures words) (frame c.fill.new.env) (laws.still_roomy p (frame old.env) (frame c.fill.new.env) c.fill.ensures.room c.requires.ready.room) args.1

pub returns-then-not-is_true-clause-taken : goal.returns-then-not-is_true-clause-taken
returns-then-not-is_true-clause-taken c =
    let truth = laws.in_problem (λ types objects. IsTrue c.is_true.result ↔ IsTrueIn (InType types objects) (atoms c.args.self.now.state) c.in-Some.action.now.pre c.fill.new.env.values.items) c.args.self.now.p.now
    c.world-world.result.types.now c.world-world.result.objects.now c.world-world.ensures.types c.world-world.ensures.objects c.is_true.ensures.truth in
    let old = c.args.self.now in
    let p = old.p.now in
    let a = c.in-Some.action.now in
    let words = texts c.args.args.now in
    let step = words_step c.args.name.now c.args.args.now in
    let args = laws.same_arguments p c.as_slice-params.result.now a.params words words c.fill.new.env.values.items c.as_slice-params.ensures.items refl (c.if-not-fill.ensures.filled p (are c.args.self.now c.world-world.result c.requires.ready c.world-world.ensures.types c.world-world.ensures.objects)) in
    laws.fails old step why.Condition
    (laws.condition_fails p step a (c.in-Some.ensures words) c.requires.ready.runnable.apart (atoms old.state) c.fill.new.env.values.items args (λ t. true≢false (sym (truth.1 t) ∙ c.if-not-is_true.true)))

pub apply_in-requires-clause-room : goal.apply_in-requires-clause-room
apply_in-requires-clause-room c =
    let old = c.args.self.now in
    let p = old.p.now in
    let a = c.in-Some.action.now in
    let words = texts c.args.args.now in
    let args = laws.same_arguments p c.as_slice-params.result.now a.params words words c.fill.new.env.values.items c.as_slice-params.ensures.items refl (c.if-not-fill.ensures.filled p (are c.args.self.now c.world-world.result c.requires.ready c.world-world.ensures.types c.world-world.ensures.objects)) in
    subst (λ e. EffectFits e c.in-Some.action.now.eff) (sym c.is_true.ensures.kept)
    (laws.room_for_eff p (words_step c.args.name.now c.args.args.now) a (c.in-Some.ensures words) (frame c.fill.new.env) (laws.still_roomy p (frame old.env) (frame c.fill.new.env) c.fill.ensures.room c.requires.ready.room) args.1)

pub returns-clause-taken : goal.returns-clause-taken
returns-clause-taken c =
    let truth = laws.in_problem (λ types objects. IsTrue c.is_true.result ↔ IsTrueIn (InType types objects) (atoms c.args.self.now.state) c.in-Some.action.now.pre c.fill.new.env.values.items) c.args.self.now.p.now
    c.world-world.result.types.now c.world-world.result.objects.now c.world-world.ensures.types c.world-world.ensures.objects c.is_true.ensures.truth in
    let ended = laws.in_problem (λ types objects. Has c.apply_in.new.self (after (InType types objects) (atoms c.args.self.now.state) c.in-Some.action.now.eff c.is_true.new.env.values.items)) c.args.self.now.p.now
    c.world-world.result.types.now c.world-world.result.objects.now c.world-world.ensures.types c.world-world.ensures.objects c.in_ok-apply_in.ensures.after in
    let old = c.args.self.now in
    let p = old.p.now in
    let a = c.in-Some.action.now in
    let words = texts c.args.args.now in
    let step = words_step c.args.name.now c.args.args.now in
    let os = c.fill.new.env.values.items in
    let args = laws.same_arguments p c.as_slice-params.result.now a.params words words os c.as_slice-params.ensures.items refl (c.if-not-fill.ensures.filled p (are c.args.self.now c.world-world.result c.requires.ready c.world-world.ensures.types c.world-world.ensures.objects)) in
    let same = c.apply_in.ensures.kept ∙ c.is_true.ensures.kept in
    let roomy = subst (IsAsRoomy (frame c.args.self.now.env)) (sym same) c.fill.ensures.room in
    laws.takes old _ refl refl roomy step (
      a,
      os,
      laws.applicable p step a (c.in-Some.ensures words) (atoms old.state) os args (truth.0 c.if-not-is_true.false),
      subst (λ (e : Frame). Has c.apply_in.new.self (after (InTypeOf c.args.self.now.p.now) (atoms c.args.self.now.state) c.in-Some.action.now.eff e.objects)) c.is_true.ensures.kept ended,
    )

pub returns-in_err-apply_in : goal.returns-in_err-apply_in
returns-in_err-apply_in c =
    let old = c.args.self.now in
    let same = c.apply_in.ensures.kept ∙ c.is_true.ensures.kept in
    let roomy = subst (IsAsRoomy (frame c.args.self.now.env)) (sym same) c.fill.ensures.room in
    record {
      taken = IfOk-from_err c.from_residual.result _ c.from_residual.ensures.0;
      unchanged = on_error c.from_residual.result _ (laws.keeps_taken old _ refl refl roomy c.in_err-apply_in.ensures.unchanged);
    }
