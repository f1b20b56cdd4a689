-- Executable fronts and solutions of a compiled problem.
-- Source: Höller et al., "HDDL", AAAI 2020: a solution is a decomposition of the initial network whose actions, in an order that it allows, are executable and reach the goal. A method's precondition is asked at its check, or where the method is applied.
use Rattle.std.specs.Prelude.{ℕ, IsTrue, List, [], slice_get, Option, Some, None, Contains}
use Rattle.plan_model.specs.declared.schemas.ActionSchema.{ActionSchema}
use Rattle.plan_model.specs.declared.schemas.MethodPlan.{MethodPlan}
use Rattle.plan_model.specs.declared.values.Compiled.{Compiled}
use Rattle.plan_model.specs.task_networks.Tree.{Tree, Label, waits, ran, used, Address}
use Rattle.plan_model.specs.task_networks.Front.{IsFront}
use Rattle.plan_model.specs.task_networks.Executable.{IsExecutableOrder}
use Rattle.plan_model.specs.task_networks.Executable as Executions
use Rattle.plan_model.specs.plan_meaning.Truth.{State, IsTrueIn, after}
use Rattle.plan_model.specs.plan_meaning.Network.{Work, action, check, task, network, InTypeOf, top_task}

module _ (c : Compiled) where
  abbrev pub top_work : Work
  top_work = task (top_task c) []

  -- the condition of an action
  abbrev pub AllowsAction : State → Option ActionSchema → List ℕ → Type 0
  AllowsAction S (Some s) args = IsTrueIn (InTypeOf c) S s.pre args
  AllowsAction S None args = ⊥

  -- the precondition of a method, at its check
  abbrev pub AllowsCheck : State → Option MethodPlan → List ℕ → Type 0
  AllowsCheck S (Some plan) values = IsTrueIn (InTypeOf c) S plan.schema.pre values
  AllowsCheck S None values = ⊥

  -- the precondition of a method that is tested where it is applied
  abbrev pub AllowsMethod : State → Option MethodPlan → List ℕ → Type 0
  AllowsMethod S (Some plan) values = IsTrue plan.tested → IsTrueIn (InTypeOf c) S plan.schema.pre values
  AllowsMethod S None values = ⊥

  -- what a node asks of the state before it
  abbrev pub Allows : State → Label (network c) → Type 0
  Allows S (waits w) = ⊥
  Allows S (ran (action a args)) = AllowsAction S (slice_get c.hddl.actions a) args
  Allows S (ran (check m values)) = AllowsCheck S (slice_get c.methods m) values
  Allows S (ran (task t args)) = ⊥
  Allows S (used g) = AllowsMethod S (slice_get c.methods g.number) g.values

  abbrev pub after_action : State → Option ActionSchema → List ℕ → State
  after_action S (Some s) args = after (InTypeOf c) S s.eff args
  after_action S None args = S

  -- actions alone change the state
  abbrev pub next : State → Label (network c) → State
  next S (waits w) = S
  next S (ran (action a args)) = after_action S (slice_get c.hddl.actions a) args
  next S (ran (check m values)) = S
  next S (ran (task t args)) = S
  next S (used g) = S

  -- the atoms that are true at the beginning
  abbrev pub initial : State
  initial = Contains c.hddl.init

  abbrev pub IsGoal : State → Type 0
  IsGoal S = IsTrueIn (InTypeOf c) S c.hddl.goal []

  -- a front whose conditions are true, each in the state before it
  pub record IsExecutableFront (tree : Tree (network c)) (order : List Address) : Type 0 where
    pub front : IsFront (network c) top_work tree order
    pub executable : IsExecutableOrder (network c) State Allows next initial tree order

  -- an executable front without open leaves, whose last state makes the goal true
  abbrev pub IsSolution : Tree (network c) → List Address → Type 0
  IsSolution tree order = Executions.IsSolution (network c) State Allows next top_work initial IsGoal tree order
