-- Which node of a tree may stand in which gap, over the rows of the tree's table, with which values of the method that it asks for.
-- Source: this project's.
use Rattle.std.specs.Prelude.{ℕ, ◌⊎◌, Bool, IsTrue, List, slice_get, Option, Some, None}
use Rattle.std.specs.Option.{option_and_then}
use Rattle.plan_model.specs.declared.terms.GroundAtom.{GroundAtom}
use Rattle.plan_model.specs.declared.schemas.MethodPlan.{MethodPlan}
use Rattle.plan_model.specs.declared.values.Compiled.{Compiled}
use Rattle.plan_model.specs.task_networks.Tree.{Label, waits, ran, used}
use Rattle.plan_model.specs.plan_meaning.Truth.{State}
use Rattle.plan_model.specs.plan_meaning.Network.{Work, action, check, task, GroundMethod, InTypeOf}
use Rattle.plan_model.specs.plan_meaning.Solution.{Allows}
use Rattle.tree_core.specs.Tables.{Row}
use Rattle.tree_core.specs.Labels.{labels}
use Rattle.tree_core.specs.Runs.{label_in, parent_in}
use Rattle.plan_encoder.specs.ChosenValues.{with_values, is_checked}
use Rattle.node_conditions.specs.Taken.{CanTake}

-- the state in which the atoms are true that are told to be
abbrev pub told : (GroundAtom → Bool) → State
told truth g = IsTrue (truth g)

abbrev pub parent_label : List (Row labels) → ℕ → Option (Label labels)
parent_label rows k = option_and_then (label_in rows) (parent_in rows k)

module _ (c : Compiled) where
  abbrev pub PlanTakes : Option MethodPlan → List ℕ → List ℕ → Type 0
  PlanTakes None old values = ⊥
  PlanTakes (Some plan) old values = CanTake (InTypeOf c) plan old values

  -- the ground method can take these values
  abbrev pub Takes : GroundMethod → List ℕ → Type 0
  Takes g values = PlanTakes (slice_get c.methods g.number) g.values values

  -- the method with this label can
  abbrev pub LabelTakes : Option (Label labels) → List ℕ → Type 0
  LabelTakes None values = ⊥
  LabelTakes (Some (waits w)) values = ⊥
  LabelTakes (Some (ran w)) values = ⊥
  LabelTakes (Some (used d)) values = Takes d.method values

  -- what is asked of the state where an action or a check stands, whose parent has this label: a check asks for the parent's values
  abbrev pub WorkStands : Option (Label labels) → Work → State → List ℕ → Type 0
  WorkStands parent (action a args) S values = Allows c S (ran (action a args))
  WorkStands parent (check m old) S values = LabelTakes parent values × Allows c S (ran (check m values))
  WorkStands parent (task t args) S values = Unit {0}

  -- a method without a check asks for its own values
  abbrev pub MethodStands : GroundMethod → State → List ℕ → Type 0
  MethodStands g S values = IsTrue (is_checked c g) ⊎ (Takes g values × Allows c S (used (with_values g values)))

  abbrev pub LabelStands : Option (Label labels) → Option (Label labels) → State → List ℕ → Type 0
  LabelStands parent None S values = Unit {0}
  LabelStands parent (Some (waits w)) S values = Unit {0}
  LabelStands parent (Some (ran w)) S values = WorkStands parent w S values
  LabelStands parent (Some (used d)) S values = MethodStands d.method S values

  -- the same of the node at place k
  abbrev pub RowStands : List (Row labels) → ℕ → State → List ℕ → Type 0
  RowStands rows k S values = LabelStands (parent_label rows k) (label_in rows k) S values

  module _ (rows : List (Row labels)) (state : ℕ → State) where
    -- the node at place k may stand in gap i, where the method that it asks for has these values
    abbrev pub RowMayStand : ℕ → List ℕ → ℕ → Type 0
    RowMayStand k values i = RowStands rows k (state i) values

    -- with some values
    abbrev pub RowMayStandSomehow : ℕ → ℕ → Type 0
    RowMayStandSomehow k i = (values : List ℕ) × RowMayStand k values i
