-- What the queue keeps while the nodes of a schedule are taken.
-- Source: this project's.
use Rattle.std.specs.Prelude.{ℕ, ◌≡◌, ◌↔◌, List, [], ◌∷◌, ◌++◌, Contains}
use Rattle.plan_model.specs.task_networks.Net.{Net}
use Rattle.plan_model.specs.task_networks.Tree.{Tree, Address, IsAddress, IsAbove}
use Rattle.plan_model.specs.task_networks.Schedule.{IsBegun, IsDue}
use Rattle.schedules.specs.latest.Gaps.{passed}
use Rattle.schedules.specs.latest.Queue.{HasCount, IsWhole, IsRightBefore, sibling, WereDue}
use Rattle.schedule_queue.specs.declared.queue.Queue.{Queue}
use Rattle.schedule_queue.specs.Children.{IsNode}
use Rattle.schedule_queue.specs.Queue.{unfinished_at, blocked_at, Holds}

module _ (N : Net) (T : Tree N) (plan : List Address) (gap : Address → ℕ) where
  -- counted and waiting, where the nodes of which W holds have told that they are whole
  module _ (W : Address → Type 0) where
    -- no primitive, not taken, and its parent is; and each sibling right before it has told
    pub record IsWaiting (parents taken : List Address) (p : Address) : Type 0 where
      pub node : IsAddress N T p
      pub other : Contains plan p → ⊥
      pub fresh : Contains taken p → ⊥
      pub begun : IsBegun parents p
      pub clear : (i : ℕ) → IsRightBefore N T p i → (W (sibling N T p i) → ⊥) → ⊥

    pub record IsKept (parents taken : List Address) (queue : Queue) : Type 0 where
      pub unfinished : (k : ℕ) (p : Address) → IsNode N T k p
          → HasCount (λ i. IsAddress N T (i ∷ p) × (W (i ∷ p) → ⊥)) (unfinished_at queue k)
      pub blocked : (k : ℕ) (p : Address) → IsNode N T k p
          → HasCount (λ i. IsRightBefore N T p i × (W (sibling N T p i) → ⊥)) (blocked_at queue k)
      pub waiting : (g k : ℕ) → Holds queue g k ↔ ((p : Address) × IsNode N T k p × (g ≡ gap p) × IsWaiting parents taken p)

  -- these are taken
  pub record IsQueueOf (taken : List Address) (queue : Queue) : Type 0 where
    pub kept : IsKept (IsWhole N T taken) taken taken queue
    pub passed : queue.passed ≡ passed N T plan taken

  -- p is out of the queue, and can be taken after these
  pub record IsTakenOut (taken : List Address) (p : Address) (queue : Queue) : Type 0 where
    pub node : IsAddress N T p
    pub were : WereDue N T taken
    pub due : IsDue N T taken p
    pub kept : IsKept (IsWhole N T taken) taken (taken ++ p ∷ []) queue
    pub passed : queue.passed ≡ passed N T plan (taken ++ p ∷ [])

  -- what is whole after p is taken, but for v and what is above it
  abbrev pub IsToldBelow : List Address → Address → Address → Address → Type 0
  IsToldBelow taken p v x = IsWhole N T (taken ++ p ∷ []) x × (IsAbove x v → ⊥)

  -- p is taken after these; v is p or above it; all below v has told, and what is above it hasn't
  pub record IsToldTo (taken : List Address) (p v : Address) (queue : Queue) : Type 0 where
    pub node : IsAddress N T p
    pub were : WereDue N T taken
    pub due : IsDue N T taken p
    pub above : IsAbove v p
    pub kept : IsKept (IsToldBelow taken p v) (taken ++ p ∷ []) (taken ++ p ∷ []) queue
    pub passed : queue.passed ≡ passed N T plan (taken ++ p ∷ [])

  -- and v has become whole
  pub record IsWholeAt (taken : List Address) (p v : Address) (queue : Queue) : Type 0 where
    pub told : IsToldTo taken p v queue
    pub whole : IsWhole N T (taken ++ p ∷ []) v
