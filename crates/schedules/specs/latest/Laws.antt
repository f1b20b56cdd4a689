-- What is proved of gap functions and their schedules, over every network.
-- Source: this project's.
use Rattle.std.specs.Prelude.{ℕ, max, ◌≡◌, ◌⊎◌, ◌↔◌, List}
use Rattle.plan_model.specs.task_networks.Order.{Precedes, IsAcyclic}
use Rattle.plan_model.specs.task_networks.Net.{Net}
use Rattle.plan_model.specs.task_networks.Tree.{Tree, Address, IsAddress}
use Rattle.schedules.specs.latest.Gaps.{IsPlanOf, IsGapFunction, IsLatest, IsPlaced, gap_in}
use Rattle.schedules.specs.latest.LatestSchedule.{IsScheduleOf, IsLatestSchedule}
use Rattle.schedules.specs.latest.OnePass.{IsGreatestAt}

-- no method's pairs have a cycle, and what precedes what can be decided
pub record IsOrderDecided (N : Net) : Type 0 where
  pub acyclic : (m : N.Method) → IsAcyclic (N.Pair m)
  pub precedes : (m : N.Method) (i j : ℕ) → Precedes (N.Pair m) i j ⊎ (Precedes (N.Pair m) i j → ⊥)

-- and what is allowed
pub record IsDecided (N : Net) (Allowed : Address → ℕ → Type 0) : Type 0 where
  pub order : IsOrderDecided N
  pub allowed : (p : Address) (i : ℕ) → Allowed p i ⊎ (Allowed p i → ⊥)

module _ (N : Net) (Allowed : Address → ℕ → Type 0) where
  -- the pointwise greater of two gap functions is one
  abbrev pub GreaterIsGapFunction : Type 0
  GreaterIsGapFunction = (tree : Tree N) (plan : List Address) (g h : Address → ℕ)
      → IsGapFunction N tree plan Allowed g → IsGapFunction N tree plan Allowed h → IsGapFunction N tree plan Allowed (λ p. max (g p) (h p))

  -- there is a latest gap function, or none at all
  abbrev pub LatestOrNone : Type 0
  LatestOrNone = (tree : Tree N) (plan : List Address) → IsPlanOf N tree plan
      → ((gap : Address → ℕ) × IsLatest N tree plan Allowed gap) ⊎ ((gap : Address → ℕ) → IsGapFunction N tree plan Allowed gap → ⊥)

  -- and it is the only one, on the nodes
  abbrev pub LatestIsTheOnlyOne : Type 0
  LatestIsTheOnlyOne = (tree : Tree N) (plan : List Address) (g h : Address → ℕ)
      → IsLatest N tree plan Allowed g → IsLatest N tree plan Allowed h → (p : Address) → IsAddress N tree p → g p ≡ h p

  -- where each node has the greatest number that fits its children's and the later nodes', this is the latest
  abbrev pub OnePassIsLatest : Type 0
  OnePassIsLatest = (tree : Tree N) (plan : List Address) (gap : Address → ℕ) → IsPlanOf N tree plan
      → ((p : Address) → IsAddress N tree p → IsGreatestAt N tree plan Allowed gap p) → IsLatest N tree plan Allowed gap

  -- a placed schedule induces a gap function
  abbrev pub PlacedInducesGaps : Type 0
  PlacedInducesGaps = (tree : Tree N) (plan order : List Address) → IsPlanOf N tree plan
      → IsPlaced N tree plan Allowed order → IsGapFunction N tree plan Allowed (gap_in N tree plan order)

  -- a gap function has a schedule
  abbrev pub GapsHaveSchedule : Type 0
  GapsHaveSchedule = (tree : Tree N) (plan : List Address) (gap : Address → ℕ) → IsPlanOf N tree plan
      → IsGapFunction N tree plan Allowed gap → (order : List Address) × IsScheduleOf N tree plan gap order

  -- which is placed, with each node in its gap
  abbrev pub ScheduleIsPlaced : Type 0
  ScheduleIsPlaced = (tree : Tree N) (plan : List Address) (gap : Address → ℕ) (order : List Address) → IsPlanOf N tree plan
      → IsGapFunction N tree plan Allowed gap → IsScheduleOf N tree plan gap order
      → IsPlaced N tree plan Allowed order × ((p : Address) → IsAddress N tree p → gap_in N tree plan order p ≡ gap p)

  -- and the only one
  abbrev pub ScheduleIsTheOnlyOne : Type 0
  ScheduleIsTheOnlyOne = (tree : Tree N) (plan order other : List Address) → IsPlanOf N tree plan
      → IsLatestSchedule N tree plan Allowed order → IsLatestSchedule N tree plan Allowed other → order ≡ other

  -- some schedule is placed exactly where there is a latest one
  abbrev pub PlacedExactlyWhereLatest : Type 0
  PlacedExactlyWhereLatest = (tree : Tree N) (plan : List Address) → IsPlanOf N tree plan
      → ((order : List Address) × IsPlaced N tree plan Allowed order)
      ↔ ((order : List Address) × IsLatestSchedule N tree plan Allowed order)
