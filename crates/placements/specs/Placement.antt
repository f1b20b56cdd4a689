-- The latest schedule of a hierarchical plan, with the first values of its methods; and the sentences that say why a plan has none.
-- Source: this project's.
use Rattle.std.specs.Prelude.{ℕ, ◌≡◌, List, ◌∷◌, ◌++◌, length, Some, slice_get}
use Rattle.plan_model.specs.declared.values.Compiled.{Compiled}
use Rattle.plan_model.specs.task_networks.Tree.{Tree, Label, Address, IsAddress}
use Rattle.plan_model.specs.task_networks.Executable.{AreAllowed, last_state}
use Rattle.plan_model.specs.plan_meaning.Truth.{State}
use Rattle.plan_model.specs.plan_meaning.Network.{network}
use Rattle.plan_model.specs.plan_meaning.Solution.{Allows, next, initial}
use Rattle.hplan_text.specs.declared.values.HLine.{HLine}
use Rattle.hplan_text.specs.declared.values.HPlan.{HPlan}
use Rattle.schedules.specs.latest.Gaps.{IsLatest}
use Rattle.schedules.specs.latest.LatestSchedule.{IsScheduleOf}
use Rattle.value_choices.specs.Choices.{IsFirst}
use Rattle.plan_encoder.specs.ChosenValues.{chosen, asking, MayStand}
use Rattle.plan_encoder.specs.Laws.{HasTree, actions, MayStandSomehow, GoalAfter, SomeSolutionShows}

module _ (c : Compiled) where
  -- the actions of the plan can be executed in the order of their lines
  abbrev pub AreExecutable : List (Label (network c)) → Type 0
  AreExecutable labels = AreAllowed (network c) State (Allows c) (next c) (initial c) labels

  -- the state after these
  abbrev pub state_after : List (Label (network c)) → State
  state_after labels = last_state (network c) State (Allows c) (next c) (initial c) labels

  module _ (plan : HPlan) where
    -- The plan has a tree; its latest gap function is this one; each method has the first values with which the node that asks for them may
    -- stand in its gap; and the order is the schedule of these gaps.
    pub record IsPlaced (tree : Tree (network c)) (order : List Address) : Type 0 where
      pub bare : Tree (network c)
      pub node : ℕ → Address
      pub labels : List (Label (network c))
      pub has : HasTree c plan bare node labels
      pub executable : AreExecutable labels
      pub goal : GoalAfter c labels
      pub gap : Address → ℕ
      pub latest : IsLatest (network c) bare (actions c plan node) (MayStandSomehow c bare labels) gap
      pub values : Address → List ℕ
      pub first : (p : Address) → IsAddress (network c) bare p
          → IsFirst (λ v. MayStand c bare labels (asking c bare p) v (gap (asking c bare p))) (values p)
      pub tree_is : tree ≡ chosen c bare values
      pub schedule : IsScheduleOf (network c) tree (actions c plan node) gap order

    -- the line with this id is the first whose action's condition is false
    pub record IsNotExecutable (id : ℕ) : Type 0 where
      pub tree : Tree (network c)
      pub node : ℕ → Address
      pub labels : List (Label (network c))
      pub has : HasTree c plan tree node labels
      pub before : List (Label (network c))
      pub label : Label (network c)
      pub rest : List (Label (network c))
      pub parts : labels ≡ before ++ label ∷ rest
      pub executable : AreExecutable before
      pub fails : Allows c (state_after before) label → ⊥
      pub line : HLine
      pub line_is : slice_get plan.primitives (length before) ≡ Some line
      pub id_is : line.id ≡ id

    -- the actions can be executed, and the goal is false after them
    pub record MissesGoal : Type 0 where
      pub tree : Tree (network c)
      pub node : ℕ → Address
      pub labels : List (Label (network c))
      pub has : HasTree c plan tree node labels
      pub executable : AreExecutable labels
      pub goal : GoalAfter c labels → ⊥

    -- they reach the goal, and no solution shows the plan
    pub record HasNoPlace : Type 0 where
      pub tree : Tree (network c)
      pub node : ℕ → Address
      pub labels : List (Label (network c))
      pub has : HasTree c plan tree node labels
      pub executable : AreExecutable labels
      pub goal : GoalAfter c labels
      pub none : SomeSolutionShows c plan → ⊥
