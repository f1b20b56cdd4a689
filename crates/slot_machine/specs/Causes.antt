-- What an act asks, said of the front.
use Rattle.std.specs.Prelude.{ℕ, ◌≡◌, List, length, Contains}
use Rattle.plan_model.specs.task_networks.Net.{Net}
use Rattle.plan_model.specs.task_networks.Tree.{Tree, Address, IsOpen}
use Rattle.plan_model.specs.task_networks.Schedule.{MustPrecede}
use Rattle.htn_base.specs.Different.{AreDifferent}
use Rattle.plan_model.specs.task_networks.Spelling.{Act, run, apply, others}
use Rattle.slot_machine.specs.Reached.{HasLeaf, IsLeft}

-- another open leaf must come before the one at p
abbrev pub IsWaiting : (N : Net) → Tree N → Address → Type 0
IsWaiting N tree p = (u : Address) × IsOpen N tree u × MustPrecede N tree u p

module _ (N : Net) (tree : Tree N) (slot : Address → ℕ) where
  -- slot h holds the work, and it waits for none
  pub record IsNextAt (h : ℕ) (w : N.Work) : Type 0 where
    pub holds : HasLeaf N tree slot h w
    pub unblocked : IsWaiting N tree holds.0 → ⊥

  pub record CanRun (h : ℕ) (w : N.Work) : Type 0 where
    pub next : IsNextAt h w
    pub simple : N.IsSimple w

  pub record CanApply (b : ℕ) (h : ℕ) (new : List ℕ) (m : N.Method) : Type 0 where
    pub next : IsNextAt h (N.head m)
    pub enough : length new ≡ length (others N m)
    -- each new slot is no open leaf's, and none is named twice
    pub left : (x : ℕ) → Contains new x → IsLeft N tree slot b x
    pub different : AreDifferent new
    -- the values are in their types, the constraints hold, and the children's arguments are in the declared types
    pub ground : N.IsGround m

  abbrev pub Can : ℕ → Act N → Type 0
  Can b (run h w) = CanRun h w
  Can b (apply h new m) = CanApply b h new m
