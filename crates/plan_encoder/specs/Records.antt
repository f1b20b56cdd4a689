-- Which ground methods fit a decomposed task of a plan: the lines that it lists are those of the method's subtasks.
-- Source: this project's; a line with an arrow is a ground method as in Höller et al., "HDDL", AAAI 2020, whose parameters that stand neither
-- in its task nor in its subtasks are left open.
use Rattle.std.specs.Prelude.{ℕ, ◌≡◌, List, [], ◌∷◌, Contains}
use Rattle.plan_model.specs.declared.values.Compiled.{Compiled}
use Rattle.plan_model.specs.plan_meaning.Network.{Work, action, check, task, GroundMethod, network, IsGroundMethod}
use Rattle.plan_model.specs.plan_meaning.Solution.{top_work}
use Rattle.schedules.specs.latest.PlanLines.{SplitLine, PlanLines}
use Rattle.plan_encoder.specs.Calls.{Call, Decomposed, subtasks, call, words}

module _ (c : Compiled) (plan : PlanLines ℕ Call Decomposed) where
  -- the line with this id says the work: an action has a primitive's line, a task the line of a decomposition
  abbrev pub IsLineOf : ℕ → Work → Type 0
  IsLineOf i (action a args) = Contains plan.steps (record { id = i; step = call c (action a args) })
  IsLineOf i (task t args) = (l : SplitLine ℕ Decomposed) × Contains plan.splits l × (l.id ≡ i) × (l.split.task ≡ call c (task t args))
  IsLineOf i (check m values) = ⊥

  -- one line for each work, in order
  abbrev pub AreLinesOf : List ℕ → List Work → Type 0
  AreLinesOf [] [] = Unit {0}
  AreLinesOf (i ∷ is) (w ∷ ws) = IsLineOf i w × AreLinesOf is ws
  AreLinesOf [] (w ∷ ws) = ⊥
  AreLinesOf (i ∷ is) [] = ⊥

  -- the method fits the line
  pub record Fits (l : SplitLine ℕ Decomposed) (g : GroundMethod) : Type 0 where
    pub ground : IsGroundMethod c g
    pub says : (words c).split g ≡ l.split
    pub children : AreLinesOf l.children (subtasks c g)

  -- the method fits the root, which has no line
  pub record FitsRoot (g : GroundMethod) : Type 0 where
    pub ground : IsGroundMethod c g
    pub head : (network c).head g ≡ top_work c
    pub children : AreLinesOf plan.root (subtasks c g)

  -- some method fits the root, and some fits each line of a decomposition
  pub record EachFits : Type 0 where
    pub root : (g : GroundMethod) × FitsRoot g
    pub splits : (l : SplitLine ℕ Decomposed) → Contains plan.splits l → (g : GroundMethod) × Fits l g
