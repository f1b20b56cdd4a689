-- What code counts to find the next node: subtrees that are taken whole, siblings that block, and which of those available is first.
-- Source: this project's.
use Rattle.std.specs.Prelude.{ℕ, suc, ◌≡◌, ◌≢◌, ◌<◌, ◌≤◌, ◌⊎◌, ◌↔◌, List, [], ◌∷◌, ◌++◌, length, slice_get, Some, Contains}
use Rattle.htn_base.specs.Different.{AreDifferent}
use Rattle.plan_model.specs.task_networks.Order.{ArePairsOf}
use Rattle.plan_model.specs.task_networks.Net.{Net, count}
use Rattle.plan_model.specs.task_networks.Tree.{Tree, Address, used, label_at, IsAddress, IsAbove, IsGrown}
use Rattle.plan_model.specs.task_networks.Schedule.{IsBegun, IsDue}
use Rattle.plan_model.specs.task_networks.Preorder.{nodes_at}
use Rattle.schedules.specs.latest.Gaps.{IsPlanOf, IsGapFunction, passed}
use Rattle.schedules.specs.latest.LatestSchedule.{IsFirstReady, IsTurn}

-- exactly n numbers are such
abbrev pub HasCount : (ℕ → Type 0) → ℕ → Type 0
HasCount P n = (numbers : List ℕ) × AreDifferent numbers × ((k : ℕ) → Contains numbers k ↔ P k) × (length numbers ≡ n)

module _ (N : Net) (tree : Tree N) where
  -- p and all below it are taken
  abbrev pub IsWhole : List Address → Address → Type 0
  IsWhole taken p = (u : Address) → IsAddress N tree u → IsAbove p u → Contains taken u

  -- a pair puts the sibling with number i before v
  abbrev pub IsRightBefore : Address → ℕ → Type 0
  IsRightBefore [] i = ⊥
  IsRightBefore (j ∷ q) i = (m : N.Method) × (label_at N tree q ≡ Some (used m)) × N.Pair m i j

  abbrev pub sibling : Address → ℕ → Address
  sibling [] i = []
  sibling (j ∷ q) i = i ∷ q

  -- and its subtree isn't whole
  abbrev pub IsBlocker : List Address → Address → ℕ → Type 0
  IsBlocker taken v i = IsRightBefore v i × (IsWhole taken (sibling v i) → ⊥)

  -- a child whose subtree isn't whole
  abbrev pub IsOpenChild : List Address → Address → ℕ → Type 0
  IsOpenChild taken p k = IsAddress N tree (k ∷ p) × (IsWhole taken (k ∷ p) → ⊥)

  -- not taken, its parent is, and no sibling blocks it
  pub record IsAvailable (taken : List Address) (p : Address) : Type 0 where
    pub node : IsAddress N tree p
    pub fresh : Contains taken p → ⊥
    pub begun : IsBegun taken p
    pub clear : (i : ℕ) → IsBlocker taken p i → ⊥

  -- each could be taken after those before it
  abbrev pub WereDue : List Address → Type 0
  WereDue taken = (before rest : List Address) (p : Address) → taken ≡ before ++ p ∷ rest → IsDue N tree before p

  -- p is taken after these: what becomes whole and available
  pub record IsTakenAfter (taken : List Address) (p : Address) : Type 0 where
    -- p and what is above it wasn't whole; all else is as it was
    pub open_before : (x : Address) → IsAbove x p → IsWhole taken x → ⊥
    pub others : (x : Address) → (IsAbove x p → ⊥) → IsWhole (taken ++ p ∷ []) x ↔ IsWhole taken x
    -- p is whole now where it has no children
    pub leaf : IsWhole (taken ++ p ∷ []) p ↔ ((k : ℕ) → IsAddress N tree (k ∷ p) → ⊥)
    -- and what is above it where the child on the way is, and all other children were
    pub above : (k : ℕ) (x : Address) → IsAbove (k ∷ x) p
        → IsWhole (taken ++ p ∷ []) x
        ↔ (IsWhole (taken ++ p ∷ []) (k ∷ x) × ((j : ℕ) → j ≢ k → IsAddress N tree (j ∷ x) → IsWhole taken (j ∷ x)))
    -- what was available is, but for p
    pub still : (v : Address) → v ≢ p → IsAvailable taken v → IsAvailable (taken ++ p ∷ []) v
    -- and what is available now was, but for children of p, and where a sibling right before it became whole
    pub newly : (v : Address) → IsAvailable (taken ++ p ∷ []) v → ((k : ℕ) → v ≢ k ∷ p)
        → ((i : ℕ) → IsRightBefore v i → IsAbove (sibling v i) p → IsWhole (taken ++ p ∷ []) (sibling v i) → ⊥) → IsAvailable taken v

  -- what a step changes in the counters
  pub record CountersFallAfter (taken : List Address) (p : Address) : Type 0 where
    -- where a child becomes whole, its parent has one open child less
    pub open_falls : (k : ℕ) (x : Address) (n : ℕ) → IsAbove (k ∷ x) p → IsWhole (taken ++ p ∷ []) (k ∷ x)
        → HasCount (IsOpenChild taken x) n
        → (less : ℕ) × (n ≡ suc less) × HasCount (IsOpenChild (taken ++ p ∷ []) x) less
    -- and each sibling right after it has one blocker less
    pub blocked_falls : (k j : ℕ) (x : Address) (n : ℕ) → IsAbove (k ∷ x) p → IsWhole (taken ++ p ∷ []) (k ∷ x) → IsRightBefore (j ∷ x) k
        → HasCount (IsBlocker taken (j ∷ x)) n
        → (less : ℕ) × (n ≡ suc less) × HasCount (IsBlocker (taken ++ p ∷ []) (j ∷ x)) less
    -- nothing else changes
    pub open_stays : (x : Address) (n : ℕ) → ((k : ℕ) → IsAbove (k ∷ x) p → IsWhole (taken ++ p ∷ []) (k ∷ x) → ⊥)
        → HasCount (IsOpenChild taken x) n → HasCount (IsOpenChild (taken ++ p ∷ []) x) n
    pub blocked_stays : (v : Address) (n : ℕ)
        → ((i : ℕ) → IsRightBefore v i → IsAbove (sibling v i) p → IsWhole (taken ++ p ∷ []) (sibling v i) → ⊥)
        → HasCount (IsBlocker taken v) n → HasCount (IsBlocker (taken ++ p ∷ []) v) n

  module _ (plan : List Address) (gap : Address → ℕ) where
    -- a beginning of the schedule: each is the next after those before it
    abbrev pub IsBeginningOf : List Address → Type 0
    IsBeginningOf taken = (before rest : List Address) (p : Address) → taken ≡ before ++ p ∷ rest
        → IsFirstReady N tree plan gap before p ⊎ IsTurn N tree plan gap before p

    -- what the queue holds: available, and no primitive
    abbrev pub IsQueued : List Address → Address → Type 0
    IsQueued taken p = IsAvailable taken p × (Contains plan p → ⊥)

    -- of what the queue holds the first: by gap, then in preorder
    pub record IsFirstQueued (taken : List Address) (p : Address) : Type 0 where
      pub queued : IsQueued taken p
      pub before : List Address
      pub after : List Address
      pub parts : nodes_at N [] tree ≡ before ++ p ∷ after
      pub least : (q : Address) → IsQueued taken q → gap p ≤ gap q
      pub first : (q : Address) → IsQueued taken q → gap q ≡ gap p → Contains before q → ⊥

-- pairs are of children
abbrev pub HasPairsOfChildren : Net → Type 0
HasPairsOfChildren N = (m : N.Method) → ArePairsOf (N.Pair m) (count N m)

module _ (N : Net) (Allowed : Address → ℕ → Type 0) where
  -- what is available can be taken, and nothing else
  abbrev pub AvailableAreDue : Type 0
  AvailableAreDue = (tree : Tree N) (taken : List Address) → IsGrown N tree → WereDue N tree taken → (p : Address)
      → IsAvailable N tree taken p ↔ (IsAddress N tree p × IsDue N tree taken p)

  -- the counters at the start: the children, and the siblings right before
  abbrev pub CountersStart : Type 0
  CountersStart = (tree : Tree N) → IsGrown N tree
      → ((x : Address) (k : ℕ) → IsOpenChild N tree [] x k ↔ IsAddress N tree (k ∷ x))
      × ((v : Address) (i : ℕ) → IsBlocker N tree [] v i ↔ IsRightBefore N tree v i)

  -- counters tell: none blocks where they are 0, and what is taken is whole where no child is open
  abbrev pub CountersTell : Type 0
  CountersTell = (tree : Tree N) (taken : List Address) (p : Address) (n : ℕ)
      → (HasCount (IsBlocker N tree taken p) n → (n ≡ 0) ↔ ((i : ℕ) → IsBlocker N tree taken p i → ⊥))
      × (HasCount (IsOpenChild N tree taken p) n → Contains taken p → (n ≡ 0) ↔ IsWhole N tree taken p)

  -- what is whole and available after a step
  abbrev pub TakingMakesWhole : Type 0
  TakingMakesWhole = (tree : Tree N) (taken : List Address) (p : Address) → WereDue N tree taken → IsAddress N tree p → IsDue N tree taken p
      → IsTakenAfter N tree taken p

  -- and what the counters are then
  abbrev pub CountersFall : Type 0
  CountersFall = (tree : Tree N) (taken : List Address) (p : Address) → WereDue N tree taken → IsAddress N tree p → IsDue N tree taken p
      → CountersFallAfter N tree taken p

  -- nothing that is left belongs in an earlier gap
  abbrev pub NothingIsLate : Type 0
  NothingIsLate = (tree : Tree N) (plan taken : List Address) (gap : Address → ℕ) → IsPlanOf N tree plan
      → IsGapFunction N tree plan Allowed gap → IsBeginningOf N tree plan gap taken
      → (p : Address) → IsAddress N tree p → (Contains taken p → ⊥) → passed N tree plan taken ≤ gap p

  -- the next is the first of the queue, where its gap has come
  abbrev pub NextIsFirstQueued : Type 0
  NextIsFirstQueued = (tree : Tree N) (plan taken : List Address) (gap : Address → ℕ) → IsGrown N tree → IsPlanOf N tree plan
      → IsGapFunction N tree plan Allowed gap → IsBeginningOf N tree plan gap taken
      → (p : Address) → IsFirstReady N tree plan gap taken p ↔ (IsFirstQueued N tree plan gap taken p × (gap p ≡ passed N tree plan taken))

  -- where it hasn't come for any, the primitive of the gap is the next, and where there is none all is taken
  abbrev pub ThenThePrimitive : Type 0
  ThenThePrimitive = (tree : Tree N) (plan taken : List Address) (gap : Address → ℕ) → IsGrown N tree → IsPlanOf N tree plan
      → IsGapFunction N tree plan Allowed gap → IsBeginningOf N tree plan gap taken
      → ((q : Address) → IsQueued N tree plan gap taken q → passed N tree plan taken < gap q)
      → ((p : Address) → slice_get plan (passed N tree plan taken) ≡ Some p → IsTurn N tree plan gap taken p)
      × (length plan ≤ passed N tree plan taken → (p : Address) → IsAddress N tree p → Contains taken p)
