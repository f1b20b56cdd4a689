-- Steps of a run: why one fails, and where the steps so far lead.
use Rattle.std.proofs.Common.{ℕ, ◌≡◌, ◌+◌, ◌<◌, ◌≤◌, ◌↔◌, ◌++◌, inl, inr, Bool, true, false, IsTrue, List, [], ◌∷◌, length, get_or, take, drop, Contains, refl, ap, sym, subst, ◌∙◌, true≢false, arith, append_assoc, take-append-drop, length-take-le}
use Rattle.std.proofs.lemmas.List.{take_all}
use Rattle.std.specs.Borrow.{Bor}
use Rattle.plan_model.specs.declared.causes.FailWhy.{FailWhy}
use Rattle.plan_model.specs.declared.causes.FailWhy.TheVariants.{UnknownAction, Arguments, Condition, GoalFalse}
use Rattle.plan_model.specs.declared.terms.GroundAtom.{GroundAtom}
use Rattle.plan_model.specs.declared.types.Types.{Types}
use Rattle.plan_model.specs.declared.types.Object.{Object}
use Rattle.plan_model.specs.declared.terms.Param.{Param}
use Rattle.plan_model.specs.declared.schemas.ActionSchema.{ActionSchema}
use Rattle.plan_model.specs.declared.steps.GroundAction.{GroundAction}
use Rattle.plan_model.specs.declared.values.Pddl.{Pddl}
use Rattle.plan_model.specs.plan_meaning.Truth as truth
use Rattle.plan_model.specs.plan_meaning.Truth.{AreTyped, IsTrueIn, after}
use Rattle.plan_model.specs.plan_meaning.ClassicalPlan.{InTypeOf, IsApplicable, EndsIn, IsPlan}
use Rattle.plan_model.specs.plan_meaning.FailingStep.{IsNamed, IsInstance, FailsIn, Fails, AreNamedApart}
use Rattle.plan_model.proofs.plan_meaning.SameStates.{same_truth, same_after}
use Rattle.plan_model.proofs.plan_meaning.FailingLaws.{ends_weaker, ends_joined, same_objects}
use Rattle.problem_index.specs.Index.{IsIndex}
use Rattle.ground_state.specs.declared.run.Run.{Run}
use Rattle.ground_state.specs.declared.state.State.{State}
use Rattle.ground_state.specs.Frames.{Frame, frame}
use Rattle.ground_state.specs.Room.{fits, effect_fits, Fits, EffectFits}
use Rattle.ground_state.specs.Needs.{HasRoomForAll}
use Rattle.ground_state.specs.States.{atoms, Has, IsSame}
use Rattle.ground_state.specs.Runs.{texts, words_step, AreArguments, IsRunnable, HasRoomIn, IsAsRoomy, IsReady, HasTaken, FailsAt, Reaches, KeepsTaken}
use Rattle.ground_state.proofs.Lists.{take_next}
use Rattle.ground_state.proofs.ArgumentLaws.{typed_length}

-- the step is taken from the old state to the new one
abbrev pub IsTaken : Pddl → GroundAction → State → State → Type 0
IsTaken p step old new = (a : ActionSchema) × (objects : List ℕ) × IsApplicable p (atoms old) step a objects × Has new (after (InTypeOf p) (atoms old) a.eff objects)

-- what is so of the types and the objects of a world of the problem is so of the problem's
pub in_problem : (P : Types → List Object → Type 0) (p : Pddl) (types : Types) (objects : List Object) → types ≡ p.types → objects ≡ p.objects → P types objects → P p.types p.objects
in_problem P p types objects d e h = subst (P p.types) e (subst (λ (ts : Types). P ts objects) d h)

pub same_arguments : (p : Pddl) (ps qs : List Param) (ws vs : List (List ℕ)) (os : List ℕ) → ps ≡ qs → ws ≡ vs → AreArguments p ps ws os → AreArguments p qs vs os
same_arguments p ps qs ws vs os e f a = subst (λ us. AreArguments p qs us os) f (subst (λ xs. AreArguments p xs ws os) e a)

-- the room is the same, and so is what has room in it
pub still_roomy : (p : Pddl) (old new : Frame) → IsAsRoomy old new → HasRoomIn p old → HasRoomIn p new
still_roomy p old new same h = subst (λ n. HasRoomForAll p n new.arity) (sym same.0) (subst (HasRoomForAll p old.room) (sym same.1) h)

module _ (p : Pddl) (step : GroundAction) (a : ActionSchema) (named : IsNamed p step a) where
  pub room_for_pre : (env : Frame) → HasRoomIn p env → AreTyped (InTypeOf p) a.params env.objects → Fits env a.pre
  room_for_pre env h t = subst (λ n. fits env.room env.arity a.pre n) (sym (typed_length p a.params env.objects t)) (h.actions a named.action).pre

  pub room_for_eff : (env : Frame) → HasRoomIn p env → AreTyped (InTypeOf p) a.params env.objects → EffectFits env a.eff
  room_for_eff env h t = subst (λ n. effect_fits env.room env.arity a.eff n) (sym (typed_length p a.params env.objects t)) (h.actions a named.action).eff

  pub applicable : (S : truth.State) (os : List ℕ) → AreArguments p a.params step.args os → IsTrueIn (InTypeOf p) S a.pre os → IsApplicable p S step a os
  applicable S os args t = record { action = named.action; name = named.name; objects_are = args.0; typed = args.1; condition = t }

  module _ (apart : AreNamedApart p) (S : truth.State) where
    pub arguments_fail : ((os : List ℕ) → AreArguments p a.params step.args os → ⊥) → FailsIn p step Arguments S
    arguments_fail none = ((a, named), λ has. go has.0 has.1 has.2)
      where
        go : (b : ActionSchema) (os : List ℕ) → IsInstance p step b os → ⊥
        go b os i = none os (i.objects_are, subst (λ (d : ActionSchema). AreTyped (InTypeOf p) d.params os) (apart.actions b a step i.named named) i.typed)

    pub condition_fails : (os : List ℕ) → AreArguments p a.params step.args os → (IsTrueIn (InTypeOf p) S a.pre os → ⊥) → FailsIn p step Condition S
    condition_fails os args wrong = ((a, os, record { named = named; objects_are = args.0; typed = args.1 }), λ allowed. go allowed.0 allowed.1 allowed.2)
      where
        go : (b : ActionSchema) (us : List ℕ) → IsApplicable p S step b us → ⊥
        go b us i =
            let f = apart.actions b a step (record { action = i.action; name = i.name }) named in
            let g = same_objects p apart us os step.args i.objects_are args.0 in
            wrong (subst (λ vs. IsTrueIn (InTypeOf p) S a.pre vs) g (subst (λ (d : ActionSchema). IsTrueIn (InTypeOf p) S d.pre us) f i.condition))

module _ (p : Pddl) where
  abbrev I : truth.State
  I = Contains p.init

  applicable_too : (S T : truth.State) → ((g : GroundAtom) → S g ↔ T g) → (step : GroundAction) (a : ActionSchema) (os : List ℕ) → IsApplicable p S step a os → IsApplicable p T step a os
  applicable_too S T same step a os i = record { action = i.action; name = i.name; objects_are = i.objects_are; typed = i.typed; condition = (same_truth (InTypeOf p) S T same a.pre os).0 i.condition }

  fails_too : (S T : truth.State) → ((g : GroundAtom) → S g ↔ T g) → (step : GroundAction) (why : FailWhy) → FailsIn p step why S → FailsIn p step why T
  fails_too S T same step UnknownAction f = f
  fails_too S T same step Arguments f = f
  fails_too S T same step Condition f = (f.0, λ allowed. f.1 (allowed.0, allowed.1, applicable_too T S (λ g. ((same g).1, (same g).0)) step allowed.0 allowed.1 allowed.2))
  fails_too S T same step GoalFalse f = f

  -- one step more
  run_next : (old new : State) (taken : List GroundAction) (step : GroundAction) → EndsIn p (Has old) I taken → IsTaken p step old new → EndsIn p (Has new) I (taken ++ step ∷ [])
  run_next old new taken step h (a, os, can, has) = ends_joined p (Has new) I taken (step ∷ []) (ends_weaker p (Has old) (λ U. EndsIn p (Has new) U (step ∷ [])) (λ U u. (
    a,
    os,
    applicable_too (atoms old) U u step a os can,
    λ g. (let s = same_after (InTypeOf p) (atoms old) U u a.eff os g in (λ x. s.0 ((has g).0 x), λ x. (has g).1 (s.1 x))),
  )) I taken h)

  -- the first step that fails
  run_fails : (state : State) (taken rest : List GroundAction) (step : GroundAction) (why : FailWhy) → EndsIn p (Has state) I taken → FailsIn p step why (atoms state) → Fails p (taken ++ step ∷ rest) (length taken + 1) why
  run_fails state taken rest step why h f =
      inl (taken, rest, step, refl, refl, ends_weaker p (Has state) (FailsIn p step why) (λ U u. fails_too (atoms state) U u step why f) I taken h)

  -- at the end
  run_plan_found : (state : State) (taken : List GroundAction) → EndsIn p (Has state) I taken → IsTrueIn (InTypeOf p) (atoms state) p.goal [] → IsPlan p taken
  run_plan_found state taken h t = ends_weaker p (Has state) (λ U. IsTrueIn (InTypeOf p) U p.goal []) (λ U u. (same_truth (InTypeOf p) (atoms state) U u p.goal []).0 t) I taken h

  run_goal_fails : (state : State) (taken : List GroundAction) → EndsIn p (Has state) I taken → (IsTrueIn (InTypeOf p) (atoms state) p.goal [] → ⊥) → Fails p taken (length taken + 1) GoalFalse
  run_goal_fails state taken h n =
      inr (refl, refl, ends_weaker p (Has state) (λ U. IsTrueIn (InTypeOf p) U p.goal [] → ⊥) (λ U u x. n ((same_truth (InTypeOf p) (atoms state) U u p.goal []).1 x)) I taken h)

-- a step that fails, whatever was taken before
pub fails : (run : Run) (step : GroundAction) (w : FailWhy) → FailsIn run.p.now step w (atoms run.state) → (p : Pddl) (taken : List GroundAction) → HasTaken p taken run → FailsAt p taken step w
fails run step w f p taken h rest = run_fails p run.state taken rest step w h.ends (subst (λ q. FailsIn q step w (atoms run.state)) h.problem f)

-- what a run holds beside its state stays its problem's
module _ (old new : Run) (problem : new.p.now ≡ old.p.now) (index : new.index ≡ old.index) (roomy : IsAsRoomy (frame old.env) (frame new.env)) where
  still_ready : IsReady old → IsReady new
  still_ready r = record {
    runnable = subst IsRunnable (sym problem) r.runnable;
    index = subst (λ q. IsIndex q new.index) (sym problem) (subst (IsIndex old.p.now) (sym index) r.index);
    room = subst (λ q. HasRoomIn q (frame new.env)) (sym problem) (still_roomy old.p.now (frame old.env) (frame new.env) roomy r.room);
  }

  -- a step that is taken
  pub takes : (step : GroundAction) → IsTaken old.p.now step old.state new.state → (p : Pddl) (taken : List GroundAction) → HasTaken p taken old → HasTaken p (taken ++ step ∷ []) new
  takes step t p taken h =
      record { problem = problem ∙ h.problem; ready = still_ready h.ready; ends = run_next p old.state new.state taken step h.ends (subst (λ q. IsTaken q step old.state new.state) h.problem t) }

  -- and none
  pub keeps_taken : IsSame old.state new.state → KeepsTaken old new
  keeps_taken same p taken h = record {
    problem = problem ∙ h.problem;
    ready = still_ready h.ready;
    ends = ends_weaker p (Has old.state) (Has new.state) (λ U u g. (λ x. (u g).0 ((same g).0 x), λ x. (same g).1 ((u g).1 x))) (Contains p.init) taken h.ends;
  }

pub reaches : (run : Run) (found : Bool) → IsTrue found ↔ IsTrueIn (InTypeOf run.p.now) (atoms run.state) run.p.now.goal [] → Reaches run found
reaches run true t p taken h = run_plan_found p run.state taken h.ends (subst (λ (q : Pddl). IsTrueIn (InTypeOf q) (atoms run.state) q.goal []) h.problem (t.0 refl))
reaches run false t p taken h = run_goal_fails p run.state taken h.ends (λ x. true≢false (sym (t.1 (subst (λ (q : Pddl). IsTrueIn (InTypeOf q) (atoms run.state) q.goal []) (sym h.problem) x))))

-- the words are those of the step
pub same_step : (step : GroundAction) (name : List ℕ) (words : List (Bor (List ℕ))) → name ≡ step.name → texts words ≡ step.args → words_step name words ≡ step
same_step step name words e f = λ i. record { name = e i; args = f i }

-- over a list of steps: one more of them
module _ (p : Pddl) (steps : List GroundAction) (i : ℕ) (step : GroundAction) (l : i < length steps) (e : step ≡ get_or steps i step) where
  more : take (i + 1) steps ≡ take i steps ++ step ∷ []
  more = take_next steps i step l e

  pub taken_more : (run : Run) → HasTaken p (take i steps ++ step ∷ []) run → HasTaken p (take (i + 1) steps) run
  taken_more run h = subst (λ s. HasTaken p s run) (sym more) h

  pub fails_there : (w : FailWhy) → FailsAt p (take i steps) step w → Fails p steps (i + 1) w
  fails_there w f =
      let all : take i steps ++ step ∷ drop (i + 1) steps ≡ steps =
      sym (append_assoc (take i steps) (step ∷ []) (drop (i + 1) steps)) ∙ ap (λ t. t ++ drop (i + 1) steps) (sym more) ∙ take-append-drop (i + 1) steps in
      let k : length (take i steps) ≡ i = length-take-le i steps (omega arith) in
      subst (λ n. Fails p steps (n + 1) w) k (subst (λ s. Fails p s (length (take i steps) + 1) w) all (f (drop (i + 1) steps)))

-- and all of them
pub taken_all : (p : Pddl) (steps : List GroundAction) (i : ℕ) (run : Run) → length steps ≤ i → HasTaken p (take i steps) run → HasTaken p steps run
taken_all p steps i run l h = subst (λ s. HasTaken p s run) (take_all i steps l) h
