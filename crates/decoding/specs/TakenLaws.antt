-- What is proved of the steps that a decoder has taken.
use Rattle.std.specs.Prelude.{ℕ, ◌≡◌, ◌+◌, ◌≤◌, ◌⊎◌, Bool, List, [], ◌∷◌, ◌++◌, length, Some, Contains}
use Rattle.htn_base.specs.Different.{AreDifferent}
use Rattle.plan_model.specs.declared.terms.GroundAtom.{GroundAtom}
use Rattle.plan_model.specs.declared.steps.GroundAction.{GroundAction}
use Rattle.plan_model.specs.declared.values.Compiled.{Compiled}
use Rattle.plan_model.specs.task_networks.Spelling.{Act, label_of}
use Rattle.plan_model.specs.plan_meaning.Truth.{State}
use Rattle.plan_model.specs.plan_meaning.Network.{network}
use Rattle.plan_model.specs.plan_meaning.Solution.{top_work, Allows, next, initial, IsGoal}
use Rattle.decoding.specs.declared.causes.Why.{Why}
use Rattle.decoding.specs.declared.causes.Why.TheVariants.{UnknownAction, Arguments, SlotHolds, Waiting, SlotTaken, Constraint}
use Rattle.decoding.specs.declared.causes.Why.TheVariants.{Precondition, Unfinished, GoalFalse}
use Rattle.decoding.specs.FailingAct.{slot_in, work_in, new_in, IsMet}
use Rattle.decoding.specs.PrintedSteps.{IsNamed, IsReadAs, HasSoundSteps, FailsAt}
use Rattle.decoding.specs.HeldLeaves.{Leaf}
use Rattle.decoding.specs.Keeping.{Kept, Keeps, MayTake}
use Rattle.decoding.specs.KeepingLaws.{IsFirst}
use Rattle.decoding.specs.TakenSteps.{true_of, IsSameState, HasTaken, IsSolvedBy, HoldNone}

module _ (c : Compiled) where
  abbrev pub TakenAtFirst : Type 0
  TakenAtFirst = (b : ℕ) (kept : Kept (network c)) (test : GroundAtom → Bool) → 1 ≤ b → IsFirst (network c) (top_work c) kept
      → IsSameState c (true_of c test) (initial c)
      → HasTaken c b [] kept (true_of c test)

  module _ (b : ℕ) (steps : List GroundAction) (kept : Kept (network c)) (S : State) (s : GroundAction) where
    -- each list that goes on with this step fails there for this cause
    abbrev pub FailsHere : Why → Type 0
    FailsHere why = (rest : List GroundAction) → FailsAt c b (steps ++ s ∷ rest) (length steps + 1) why

    -- a new slot holds something, or stands twice
    abbrev pub IsOneTaken : List ℕ → Type 0
    IsOneTaken new = ((x : ℕ) × (leaf : Leaf (network c)) × Contains new x × (kept.held x ≡ Some leaf)) ⊎ (AreDifferent new → ⊥)

    -- what the tests of a step say, done in the order of the causes, each where those before it found nothing
    pub record StepTells : Type 0 where
      pub unnamed : (IsNamed c s → ⊥) → FailsHere UnknownAction
      pub unread : IsNamed c s → ((a : Act (network c)) → IsReadAs c b s a → ⊥) → FailsHere Arguments
      pub not_held : (a : Act (network c)) → IsReadAs c b s a
          → ((leaf : Leaf (network c)) → kept.held (slot_in (network c) a) ≡ Some leaf → leaf.work ≡ work_in (network c) a → ⊥)
          → FailsHere SlotHolds
      pub waits : (a : Act (network c)) (leaf : Leaf (network c)) → IsReadAs c b s a → kept.held (slot_in (network c) a) ≡ Some leaf
          → leaf.work ≡ work_in (network c) a
          → 1 ≤ kept.blocked (slot_in (network c) a) → FailsHere Waiting
      pub taken : (a : Act (network c)) (leaf : Leaf (network c)) → IsReadAs c b s a → kept.held (slot_in (network c) a) ≡ Some leaf
          → leaf.work ≡ work_in (network c) a
          → kept.blocked (slot_in (network c) a) ≡ 0 → IsOneTaken (new_in (network c) a) → FailsHere SlotTaken
      pub unmet : (a : Act (network c)) (leaf : Leaf (network c)) → IsReadAs c b s a → kept.held (slot_in (network c) a) ≡ Some leaf
          → leaf.work ≡ work_in (network c) a
          → kept.blocked (slot_in (network c) a) ≡ 0 → (IsOneTaken (new_in (network c) a) → ⊥) → (IsMet (network c) a → ⊥)
          → FailsHere Constraint
      pub not_allowed : (a : Act (network c)) (leaf : Leaf (network c)) → IsReadAs c b s a → MayTake (network c) b (top_work c) kept a leaf
          → (Allows c S (label_of (network c) a) → ⊥) → FailsHere Precondition

  abbrev pub TakenTells : Type 0
  TakenTells = (b : ℕ) (steps : List GroundAction) (kept : Kept (network c)) (test : GroundAtom → Bool) (s : GroundAction)
      → HasSoundSteps c b → HasTaken c b steps kept (true_of c test)
      → StepTells b steps kept (true_of c test) s

  -- a step is taken: its act goes behind the acts
  abbrev pub OneMoreTaken : Type 0
  OneMoreTaken = (b : ℕ) (steps : List GroundAction) (old new : Kept (network c)) (test after : GroundAtom
      → Bool) (s : GroundAction) (a : Act (network c)) (taken : HasTaken c b steps old (true_of c test))
      → IsReadAs c b s a → Allows c (true_of c test) (label_of (network c) a) → Keeps (network c) b (top_work c) new (taken.acts ++ a ∷ [])
      → IsSameState c (true_of c after) (next c (true_of c test) (label_of (network c) a))
      → HasTaken c b (steps ++ s ∷ []) new (true_of c after)

  -- what the tests of the end say
  pub record EndTells (b : ℕ) (steps : List GroundAction) (kept : Kept (network c)) (S : State) : Type 0 where
    pub unfinished : (x : ℕ) (leaf : Leaf (network c)) → kept.held x ≡ Some leaf → FailsAt c b steps (length steps + 1) Unfinished
    pub goal_false : HoldNone c b kept → (IsGoal c S → ⊥) → FailsAt c b steps (length steps + 1) GoalFalse
    pub solved : HoldNone c b kept → IsGoal c S → IsSolvedBy c b steps kept

  abbrev pub EndIsTold : Type 0
  EndIsTold = (b : ℕ) (steps : List GroundAction) (kept : Kept (network c)) (test : GroundAtom → Bool) → HasSoundSteps c b
      → HasTaken c b steps kept (true_of c test)
      → EndTells b steps kept (true_of c test)
