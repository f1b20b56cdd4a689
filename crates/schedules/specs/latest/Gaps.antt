-- Gap functions of a finished tree whose primitives come in a given order, and the latest one.
-- The plan lists the nodes of the primitives in their order; gap i is the time before primitive number i.
-- Source: this project's.
use Rattle.std.specs.Prelude.{ℕ, ◌≡◌, ◌<◌, ◌≤◌, ◌+◌, List, [], ◌∷◌, length, filter, slice_get, cond, Some, Contains}
use Rattle.plan_model.specs.task_networks.Net.{Net}
use Rattle.plan_model.specs.task_networks.Tree.{Tree, Address, ran, label_at, IsAddress, IsOpen}
use Rattle.plan_model.specs.task_networks.Schedule.{Blocks, IsSchedule}
use Rattle.htn_base.specs.Different.{AreDifferent}
use Rattle.plan_model.specs.task_networks.Listed.{same_address, is_listed}

module _ (N : Net) (tree : Tree N) (plan : List Address) where
  -- the tree has no open leaves, and the plan lists some of its actions and checks, each once
  pub record IsPlanOf : Type 0 where
    pub finished : (p : Address) → IsOpen N tree p → ⊥
    pub different : AreDifferent plan
    pub leaves : (p : Address) → Contains plan p → (w : N.Work) × (label_at N tree p ≡ Some (ran w))

  -- Allowed p i: node p may stand in gap i; asked of checks alone, whose precondition can be true in the state after i primitives
  module _ (Allowed : Address → ℕ → Type 0) where
    pub record IsGapFunction (gap : Address → ℕ) : Type 0 where
      pub range : (p : Address) → IsAddress N tree p → gap p ≤ length plan
      pub own : (i : ℕ) (p : Address) → slice_get plan i ≡ Some p → gap p ≡ i
      pub children : (i : ℕ) (p : Address) → IsAddress N tree (i ∷ p) → gap p ≤ gap (i ∷ p)
      -- a node of the subtree of a sibling that precedes v
      pub before : (u v : Address) → IsAddress N tree u → IsAddress N tree v → Blocks N tree u v → gap u ≤ gap v
      pub primitive_before : (u v : Address) → Contains plan u → IsAddress N tree v → Blocks N tree u v → gap u < gap v
      pub allowed : (p : Address) → IsAddress N tree p → Allowed p (gap p)

    -- the pointwise greatest
    pub record IsLatest (gap : Address → ℕ) : Type 0 where
      pub is : IsGapFunction gap
      pub greatest : (other : Address → ℕ) → IsGapFunction other → (p : Address) → IsAddress N tree p → other p ≤ gap p

  -- how many primitives are among these
  abbrev pub passed : List Address → ℕ
  passed taken = length (filter (is_listed plan) taken)

  -- the gap in which p stands in an order: how many primitives stand before it
  abbrev pub gap_in : List Address → Address → ℕ
  gap_in [] p = 0
  gap_in (q ∷ order) p = cond (same_address q p) 0 (cond (is_listed plan q) 1 0 + gap_in order p)

  -- a schedule with the primitives in the plan's order, and each check in a gap that is allowed
  pub record IsPlaced (Allowed : Address → ℕ → Type 0) (order : List Address) : Type 0 where
    pub schedule : IsSchedule N tree order
    pub primitives : filter (is_listed plan) order ≡ plan
    pub allowed : (p : Address) → IsAddress N tree p → Allowed p (gap_in order p)
