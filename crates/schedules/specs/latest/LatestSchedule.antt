-- The schedule of a gap function: gap by gap, in each the ready nodes, the first in preorder each time, then the primitive.
-- Source: this project's; a schedule is HTN progression, as in Alford et al., "Bound to Plan", ICAPS 2016.
use Rattle.std.specs.Prelude.{ℕ, ◌≡◌, ◌⊎◌, List, [], ◌∷◌, ◌++◌, slice_get, Some, Contains}
use Rattle.plan_model.specs.task_networks.Net.{Net}
use Rattle.plan_model.specs.task_networks.Tree.{Tree, Address, IsAddress}
use Rattle.plan_model.specs.task_networks.Schedule.{IsDue}
use Rattle.plan_model.specs.task_networks.Preorder.{nodes_at}
use Rattle.schedules.specs.latest.Gaps.{passed, IsLatest}

module _ (N : Net) (tree : Tree N) (plan : List Address) (gap : Address → ℕ) where
  -- no primitive, in its gap, and it can be taken after these
  pub record IsReady (taken : List Address) (p : Address) : Type 0 where
    pub node : IsAddress N tree p
    pub other : Contains plan p → ⊥
    pub here : gap p ≡ passed N tree plan taken
    pub due : IsDue N tree taken p

  -- the first in preorder of those that are ready
  pub record IsFirstReady (taken : List Address) (p : Address) : Type 0 where
    pub ready : IsReady taken p
    pub before : List Address
    pub after : List Address
    pub parts : nodes_at N [] tree ≡ before ++ p ∷ after
    pub none : (q : Address) → Contains before q → IsReady taken q → ⊥

  -- the primitive of the gap, where nothing is ready
  pub record IsTurn (taken : List Address) (p : Address) : Type 0 where
    pub number : slice_get plan (passed N tree plan taken) ≡ Some p
    pub due : IsDue N tree taken p
    pub none : (q : Address) → IsReady taken q → ⊥

  -- all nodes, each as the next after those before it
  pub record IsScheduleOf (order : List Address) : Type 0 where
    pub whole : (p : Address) → IsAddress N tree p → Contains order p
    pub each : (taken rest : List Address) (p : Address) → order ≡ taken ++ p ∷ rest → IsFirstReady taken p ⊎ IsTurn taken p

-- the schedule of the latest gap function
pub record IsLatestSchedule (N : Net) (tree : Tree N) (plan : List Address) (Allowed : Address → ℕ
    → Type 0) (order : List Address) : Type 0 where
  pub gap : Address → ℕ
  pub latest : IsLatest N tree plan Allowed gap
  pub schedule : IsScheduleOf N tree plan gap order
