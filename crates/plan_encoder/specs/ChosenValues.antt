-- The values that a plan leaves open: which values the method at a node can have, and in which gap a node may stand with them.
-- Source: this project's.
use Rattle.std.specs.Prelude.{ℕ, ◌≡◌, ◌⊎◌, Bool, false, IsTrue, cond, List, [], ◌∷◌, map, take, slice_get, Option, Some, None}
use Rattle.plan_model.specs.declared.schemas.MethodPlan.{MethodPlan}
use Rattle.plan_model.specs.declared.values.Compiled.{Compiled}
use Rattle.plan_model.specs.task_networks.Tree.{Tree, Label, waits, ran, used, Address, label_at}
use Rattle.plan_model.specs.task_networks.Executable.{last_state}
use Rattle.plan_model.specs.plan_meaning.Truth.{State}
use Rattle.plan_model.specs.plan_meaning.Network.{Work, action, check, task, GroundMethod, network, IsGroundMethod}
use Rattle.plan_model.specs.plan_meaning.Solution.{Allows, next, initial}
use Rattle.schedules.specs.latest.Relabelled.{relabelled}
use Rattle.plan_encoder.specs.Calls.{is_check}

abbrev pub with_values : GroundMethod → List ℕ → GroundMethod
with_values g values = record { number = g.number; values = values }

-- a child of a method that has these values now: its check has them too
abbrev pub rechecked : List ℕ → Work → Work
rechecked values (action a args) = action a args
rechecked values (check m old) = check m values
rechecked values (task t args) = task t args

-- what stands at a node where methods have these values, each at its own node
abbrev pub method_with : (Address → List ℕ) → Address → GroundMethod → GroundMethod
method_with values p g = with_values g (values p)

abbrev pub work_with : (Address → List ℕ) → Address → Work → Work
work_with values [] w = w
work_with values (i ∷ q) w = rechecked (values q) w

module _ (c : Compiled) where
  -- the method can have these values: it is ground with them, and nothing that a plan says of it changes
  pub record CanHave (g : GroundMethod) (values : List ℕ) : Type 0 where
    pub ground : IsGroundMethod c (with_values g values)
    pub head : (network c).head (with_values g values) ≡ (network c).head g
    pub children : (network c).works (with_values g values) ≡ map (rechecked values) ((network c).works g)

  -- the tree whose methods have these values, each at its node
  abbrev pub chosen : Tree (network c) → (Address → List ℕ) → Tree (network c)
  chosen tree values = relabelled (network c) (work_with values) (method_with values) [] tree

  -- the method has a check among its children
  abbrev pub is_checked_by : Option MethodPlan → Bool
  is_checked_by None = false
  is_checked_by (Some plan) = plan.checked

  abbrev pub is_checked : GroundMethod → Bool
  is_checked g = is_checked_by (slice_get c.methods g.number)

  abbrev pub is_check_at : Option (Label (network c)) → Bool
  is_check_at None = false
  is_check_at (Some (waits w)) = false
  is_check_at (Some (ran w)) = is_check w
  is_check_at (Some (used g)) = false

  -- a check asks for the values of its method, each other node for its own
  abbrev pub chooser_by : Address → Option (Label (network c)) → Address
  chooser_by [] l = []
  chooser_by (i ∷ q) l = cond (is_check_at l) q (i ∷ q)

  -- the node that asks for the values of the method at k: its check, which is its first child, or k itself
  abbrev pub asking_by : Address → Option (Label (network c)) → Address
  asking_by k None = k
  asking_by k (Some (waits w)) = k
  asking_by k (Some (ran w)) = k
  asking_by k (Some (used g)) = cond (is_checked g) (0 ∷ k) k

  module _ (tree : Tree (network c)) where
    abbrev pub chooser : Address → Address
    chooser p = chooser_by p (label_at (network c) tree p)

    abbrev pub asking : Address → Address
    asking k = asking_by k (label_at (network c) tree k)

    -- the method at the parent can have the values
    abbrev pub ParentCanHave : Address → List ℕ → Type 0
    ParentCanHave [] values = Unit {0}
    ParentCanHave (i ∷ q) values = (g : GroundMethod) × (label_at (network c) tree q ≡ Some (used g)) × CanHave g values

    -- with these labels of the primitives, in order
    module _ (labels : List (Label (network c))) where
      -- the state in gap i, after i primitives
      abbrev pub state_in : ℕ → State
      state_in i = last_state (network c) State (Allows c) (next c) (initial c) (take i labels)

      abbrev pub WorkMayStand : Address → Work → List ℕ → ℕ → Type 0
      WorkMayStand p (action a args) values i = Allows c (state_in i) (ran (action a args))
      WorkMayStand p (check m old) values i = ParentCanHave p values × Allows c (state_in i) (ran (check m values))
      WorkMayStand p (task t args) values i = Unit {0}

      -- a method with a check leaves the choice to it
      abbrev pub LabelMayStand : Address → Option (Label (network c)) → List ℕ → ℕ → Type 0
      LabelMayStand p None values i = Unit {0}
      LabelMayStand p (Some (waits w)) values i = Unit {0}
      LabelMayStand p (Some (ran w)) values i = WorkMayStand p w values i
      LabelMayStand p (Some (used g)) values i = IsTrue (is_checked g) ⊎ (CanHave g values × Allows c (state_in i) (used (with_values g values)))

      -- node p may stand in gap i, where the method that it asks for has these values
      abbrev pub MayStand : Address → List ℕ → ℕ → Type 0
      MayStand p values i = LabelMayStand p (label_at (network c) tree p) values i
