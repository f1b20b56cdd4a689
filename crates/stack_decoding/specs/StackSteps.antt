-- Steps of a stack by their printed words; where a list of them fails to spell a solution, and why.
-- Source: this project's. A stack of tasks, as in LL parsing, whose tip is the only task that can be taken.
use Rattle.std.specs.Prelude.{ℕ, ◌≡◌, ◌≤◌, ◌<◌, ◌+◌, ◌⊎◌, List, ◌∷◌, ◌++◌, length, map, Contains}
use Rattle.htn_base.specs.Escapes.{slot_word}
use Rattle.plan_model.specs.declared.terms.Param.{Param}
use Rattle.plan_model.specs.declared.steps.GroundAction.{GroundAction}
use Rattle.plan_model.specs.declared.values.Compiled.{Compiled}
use Rattle.plan_model.specs.task_networks.Net.{count}
use Rattle.plan_model.specs.task_networks.Tree.{Tree, Address, IsOpen}
use Rattle.plan_model.specs.task_networks.Executable.{last_state, IsExecutableOrder}
use Rattle.plan_model.specs.task_networks.Spelling.{Act, run, apply, label_of}
use Rattle.plan_model.specs.plan_meaning.Truth.{State, AreTyped}
use Rattle.plan_model.specs.plan_meaning.Network.{Work, network, InTypeOf}
use Rattle.plan_model.specs.plan_meaning.Solution.{Allows, next, initial, IsGoal, IsSolution}
use Rattle.plan_model.specs.plan_meaning.SpelledPlan.{object_word, step_of}
use Rattle.slot_machine.specs.Reached.{HasLeaf}
use Rattle.stack_machine.specs.Stack.{AreCellsFrom}
use Rattle.stack_encoding.specs.StackSpelling.{cells_of, stack_step, IsStackSpelling}
use Rattle.decoding.specs.declared.causes.Why.{Why}
use Rattle.decoding.specs.declared.causes.Why.TheVariants.{UnknownAction, Arguments, SlotHolds, Waiting, SlotTaken, Constraint}
use Rattle.decoding.specs.declared.causes.Why.TheVariants.{Precondition, Unfinished, GoalFalse}
use Rattle.decoding.specs.FailingAct.{place, slot_in, work_in, IsUnmet}
use Rattle.decoding.specs.PrintedSteps.{HasParams, own_objects, IsNamed}

module _ (c : Compiled) where
  -- the cells that an act names: by how many come in the place of what it takes
  abbrev pub children_of : Act (network c) → ℕ
  children_of (run h w) = 0
  children_of (apply h new g) = count (network c) g

  abbrev pub named_cells : Act (network c) → List ℕ
  named_cells a = cells_of (slot_in (network c) a) (children_of a)

  -- a method's children are in its own cell and those above it, the line's last lowest
  abbrev pub HasCells : Act (network c) → Type 0
  HasCells (run h w) = Unit {0}
  HasCells (apply h new g) = AreCellsFrom (network c) h g new

  module _ (b : ℕ) where
    abbrev pub AreUpTo : List ℕ → Type 0
    AreUpTo cells = (x : ℕ) → Contains cells x → x ≤ b

    -- the step has a printed action's name, and the arguments that are due for it: so many cells, from 0 to b, and objects of the declared types
    pub record HasArguments (step : GroundAction) : Type 0 where
      pub act : Act (network c)
      pub params : List Param
      pub has : HasParams c act params
      pub typed : AreTyped (InTypeOf c) params (own_objects c act)
      pub cells : List ℕ
      pub many : length cells ≡ length (named_cells act)
      pub within : AreUpTo cells
      pub name : step.name ≡ (step_of c act).name
      pub args : step.args ≡ map slot_word cells ++ map (object_word c) (own_objects c act)

    -- the step is the act's: it names the act's cells in order
    pub record IsStepOf (step : GroundAction) (a : Act (network c)) : Type 0 where
      pub params : List Param
      pub has : HasParams c a params
      pub typed : AreTyped (InTypeOf c) params (own_objects c a)
      pub own : 1 ≤ slot_in (network c) a
      pub within : AreUpTo (named_cells a)
      pub cells : HasCells a
      pub is : step ≡ stack_step c a

    module _ (tree : Tree (network c)) (cell : Address → ℕ) where
      -- cell h is the highest that holds something, and it holds this work
      pub record HoldsAtTip (h : ℕ) (w : Work) : Type 0 where
        pub holds : HasLeaf (network c) tree cell h w
        pub highest : (p : Address) → IsOpen (network c) tree p → cell p ≤ h

      -- the sentences on a step at a front, in a state
      abbrev pub Sentence : State → GroundAction → Why → Type 0
      Sentence S step UnknownAction = IsNamed c step → ⊥
      Sentence S step Arguments = HasArguments step → ⊥
      Sentence S step SlotHolds = (a : Act (network c)) → IsStepOf step a → HoldsAtTip (slot_in (network c) a) (work_in (network c) a) → ⊥
      Sentence S step Waiting = ⊥
      Sentence S step SlotTaken = ⊥
      Sentence S step Constraint = (a : Act (network c)) × IsStepOf step a × IsUnmet (network c) a
      Sentence S step Precondition = (a : Act (network c)) × IsStepOf step a × (Allows c S (label_of (network c) a) → ⊥)
      Sentence S step Unfinished = ⊥
      Sentence S step GoalFalse = ⊥

      -- this is the first that is true
      pub record FailsBy (S : State) (step : GroundAction) (why : Why) : Type 0 where
        pub says : Sentence S step why
        pub first : (other : Why) → place other < place why → Sentence S step other → ⊥

    -- the steps spell an executable front, with cells 1 to b
    pub record SpellsExecutable (steps : List GroundAction) (tree : Tree (network c)) (order : List Address) (cell : Address → ℕ) : Type 0 where
      pub spelled : IsStackSpelling c b steps tree order cell
      pub executable : IsExecutableOrder (network c) State (Allows c) (next c) (initial c) tree order

    -- step n, counted from 1, is the first that can't be taken
    pub record StepFails (steps : List GroundAction) (n : ℕ) (why : Why) : Type 0 where
      pub before : List GroundAction
      pub step : GroundAction
      pub rest : List GroundAction
      pub parts : steps ≡ before ++ step ∷ rest
      pub place : n ≡ length before + 1
      pub tree : Tree (network c)
      pub order : List Address
      pub cell : Address → ℕ
      pub reached : SpellsExecutable before tree order cell
      pub fails : FailsBy tree cell (last_state (network c) State (Allows c) (next c) (initial c) reached.executable.labels) step why

    -- the sentences on the end
    abbrev pub EndSentence : Tree (network c) → State → Why → Type 0
    EndSentence tree S Unfinished = (p : Address) × IsOpen (network c) tree p
    EndSentence tree S GoalFalse = ((p : Address) → IsOpen (network c) tree p → ⊥) × (IsGoal c S → ⊥)
    EndSentence tree S why = ⊥

    -- each step can be taken, and something is left: that counts as a further step
    pub record EndFails (steps : List GroundAction) (n : ℕ) (why : Why) : Type 0 where
      pub place : n ≡ length steps + 1
      pub tree : Tree (network c)
      pub order : List Address
      pub cell : Address → ℕ
      pub reached : SpellsExecutable steps tree order cell
      pub fails : EndSentence tree (last_state (network c) State (Allows c) (next c) (initial c) reached.executable.labels) why

    -- the list fails at step n for this cause
    abbrev pub FailsAt : List GroundAction → ℕ → Why → Type 0
    FailsAt steps n why = StepFails steps n why ⊎ EndFails steps n why

    -- the list spells, with cells 1 to b, the schedule of a solution tree
    abbrev pub SpellsSolution : List GroundAction → Type 0
    SpellsSolution steps = (tree : Tree (network c)) × (order : List Address) × (cell : Address → ℕ) × IsStackSpelling c b steps tree order cell
        × IsSolution c tree order
