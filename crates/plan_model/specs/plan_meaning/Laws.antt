-- What is proved of every problem, so that the definitions are seen to fit together.
use Rattle.std.specs.Prelude.{ℕ, ◌≡◌, List, ◌∷◌, ◌++◌, length, Contains}
use Rattle.plan_model.specs.declared.causes.FailWhy.{FailWhy}
use Rattle.plan_model.specs.declared.schemas.MethodSchema.{MethodSchema}
use Rattle.plan_model.specs.declared.steps.GroundAction.{GroundAction}
use Rattle.plan_model.specs.declared.values.Compiled.{Compiled}
use Rattle.plan_model.specs.declared.values.Hddl.{Hddl}
use Rattle.plan_model.specs.declared.values.Pddl.{Pddl}
use Rattle.plan_model.specs.task_networks.Order.{ArePairsOf, IsAcyclic}
use Rattle.plan_model.specs.plan_meaning.Bound.{IsBound}
use Rattle.plan_model.specs.plan_meaning.ClassicalPlan.{IsExecutable, IsPlan}
use Rattle.plan_model.specs.plan_meaning.FailingStep.{Fails}
use Rattle.plan_model.specs.Pairs.{Pairs}

-- the pairs of each network are of its subtasks, and have no cycle
abbrev pub AreOrdered : Hddl → Type 0
AreOrdered h = (s : MethodSchema) → Contains (h.top ∷ h.methods) s → ArePairsOf (Pairs s.pairs) (length s.children) × IsAcyclic (Pairs s.pairs)

-- a list that can be executed can be left off at any step
abbrev pub PrefixIsExecutable : Pddl → Type 0
PrefixIsExecutable p = (steps more : List GroundAction) → IsExecutable p (steps ++ more) → IsExecutable p steps

-- one number at most is the bound
abbrev pub BoundIsTheOnlyOne : Compiled → Type 0
BoundIsTheOnlyOne c = (n m : ℕ) → IsBound c n → IsBound c m → n ≡ m

-- a list is a plan, or it fails at one step for one cause, and not both
pub record IsPlanOrFails (p : Pddl) (steps : List GroundAction) : Type 0 where
  pub one_of : (IsPlan p steps → ⊥) → ((n : ℕ) (why : FailWhy) → Fails p steps n why → ⊥) → ⊥
  pub not_both : (n : ℕ) (why : FailWhy) → IsPlan p steps → Fails p steps n why → ⊥
  pub step : (n m : ℕ) (why because : FailWhy) → Fails p steps n why → Fails p steps m because → n ≡ m
  pub cause : (n m : ℕ) (why because : FailWhy) → Fails p steps n why → Fails p steps m because → why ≡ because

abbrev pub EachIsPlanOrFails : Pddl → Type 0
EachIsPlanOrFails p = (steps : List GroundAction) → IsPlanOrFails p steps
