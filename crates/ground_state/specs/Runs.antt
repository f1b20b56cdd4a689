-- What a run of a list of ground actions stands on, what it does at a step, and what it answers.
-- Source: this project's; a plan and a failing step as in plan_meaning.
use Rattle.std.specs.Prelude.{ℕ, ◌≡◌, ◌+◌, ◌<◌, ◌^◌, Bool, MatchBool, MatchOption, List, [], ◌∷◌, ◌++◌, map, length, Contains, Option}
use Rattle.std.specs.Borrow.{Bor}
use Rattle.plan_model.specs.declared.causes.FailWhy.{FailWhy}
use Rattle.plan_model.specs.declared.causes.FailWhy.TheVariants.{GoalFalse}
use Rattle.plan_model.specs.declared.terms.Param.{Param}
use Rattle.plan_model.specs.declared.steps.GroundAction.{GroundAction}
use Rattle.plan_model.specs.declared.values.Pddl.{Pddl}
use Rattle.plan_model.specs.Parts.{AreListed}
use Rattle.plan_model.specs.plan_meaning.Truth.{AreTyped}
use Rattle.plan_model.specs.plan_meaning.ClassicalPlan.{AreObjects, InTypeOf, EndsIn, IsPlan}
use Rattle.plan_model.specs.plan_meaning.FailingStep.{Fails, AreNamedApart}
use Rattle.ground_state.specs.declared.verdict.Verdict.{Verdict}
use Rattle.ground_state.specs.declared.verdict.Verdict.TheVariants as verdict
use Rattle.ground_state.specs.declared.run.Run.{Run}
use Rattle.ground_state.specs.Frames.{Frame, frame}
use Rattle.ground_state.specs.States.{Has}
use Rattle.ground_state.specs.Needs.{HasRoomForAll}
use Rattle.problem_index.specs.Index.{IsIndex}

-- the list is a plan, or it fails at this step for this cause
abbrev pub IsVerdict : Pddl → List GroundAction → Verdict → Type 0
IsVerdict p steps verdict.Plan = IsPlan p steps
IsVerdict p steps (verdict.Fails n w) = Fails p steps n w

-- types are listed, objects and actions are fewer than 2^32, and no two of them have one word
pub record IsRunnable (p : Pddl) : Type 0 where
  pub listed : AreListed p.types
  pub objects : length p.objects < 2 ^ 32
  pub actions : length p.actions < 2 ^ 32
  pub apart : AreNamedApart p

-- each action and the goal have room
abbrev pub HasRoomIn : Pddl → Frame → Type 0
HasRoomIn p env = HasRoomForAll p env.room env.arity

-- the room is the same
abbrev pub IsAsRoomy : Frame → Frame → Type 0
IsAsRoomy old new = (new.room ≡ old.room) × (new.arity ≡ old.arity)

-- words that are read in place
abbrev pub texts : List (Bor (List ℕ)) → List (List ℕ)
texts words = map (λ (w : Bor (List ℕ)). w.now) words

-- the step of these words
abbrev pub words_step : List ℕ → List (Bor (List ℕ)) → GroundAction
words_step name args = record { name = name; args = texts args }

-- the objects have the words, and each is in its parameter's type
abbrev pub AreArguments : Pddl → List Param → List (List ℕ) → List ℕ → Type 0
AreArguments p params words objects = AreObjects p objects words × AreTyped (InTypeOf p) params objects

-- now the objects of the words are in force; or there are no such objects
abbrev pub IsFilled : Pddl → List Param → List (List ℕ) → Bool → Frame → Type 0
IsFilled p params words found env = MatchBool found (AreArguments p params words env.objects) ((objects : List ℕ) → AreArguments p params words objects → ⊥)

-- what a run holds beside its state is its problem's
pub record IsReady (run : Run) : Type 0 where
  pub runnable : IsRunnable run.p.now
  pub index : IsIndex run.p.now run.index
  pub room : HasRoomIn run.p.now (frame run.env)

-- the run is one of the problem, and has taken these steps from the problem's first state on
pub record HasTaken (p : Pddl) (taken : List GroundAction) (run : Run) : Type 0 where
  pub problem : run.p.now ≡ p
  pub ready : IsReady run
  pub ends : EndsIn p (Has run.state) (Contains p.init) taken

-- each list that goes on with the step behind those taken fails there for this cause
abbrev pub FailsAt : Pddl → List GroundAction → GroundAction → FailWhy → Type 0
FailsAt p taken step w = (rest : List GroundAction) → Fails p (taken ++ step ∷ rest) (length taken + 1) w

-- whatever was taken before: now the step too, or it fails there
abbrev pub Takes : GroundAction → Run → Run → Option FailWhy → Type 0
Takes step old new failed = (p : Pddl) (taken : List GroundAction) → HasTaken p taken old → MatchOption failed (HasTaken p (taken ++ step ∷ []) new) (FailsAt p taken step)

-- whatever was taken: it is a plan, or only the goal is false
abbrev pub Reaches : Run → Bool → Type 0
Reaches run found = (p : Pddl) (taken : List GroundAction) → HasTaken p taken run → MatchBool found (IsPlan p taken) (Fails p taken (length taken + 1) GoalFalse)

-- whatever was taken is what is taken
abbrev pub KeepsTaken : Run → Run → Type 0
KeepsTaken old new = (p : Pddl) (taken : List GroundAction) → HasTaken p taken old → HasTaken p taken new
