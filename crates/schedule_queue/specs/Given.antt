-- What is known of nodes before any is taken.
-- Source: this project's.
use Rattle.std.specs.Prelude.{ℕ, ◌≡◌, ◌↔◌, List, ◌∷◌, Option, Some, None, slice_get, Contains}
use Rattle.std.specs.Option.{option_and_then}
use Rattle.htn_base.specs.Different.{AreDifferent}
use Rattle.plan_model.specs.task_networks.Net.{Net}
use Rattle.plan_model.specs.task_networks.Tree.{Tree, Label, waits, ran, used, Address}
use Rattle.plan_model.specs.plan_meaning.Network.{network}
use Rattle.tree_core.specs.Tables.{Row}
use Rattle.tree_core.specs.Labels.{labels}
use Rattle.tree_core.specs.Runs.{label_in}
use Rattle.kept_front.specs.declared.later.Later.{Later}
use Rattle.kept_front.specs.Later.{AreAllLater}
use Rattle.schedules.specs.latest.Queue.{HasCount, IsRightBefore, HasPairsOfChildren}
use Rattle.schedule_queue.specs.declared.given.Given.{Given}
use Rattle.schedule_queue.specs.Orders.{IsSetting}
use Rattle.schedule_queue.specs.Children.{IsNode, AreChildrenOf}

-- the node's gap, where it is no primitive
abbrev pub WaitsIn : List ℕ → List ℕ → ℕ → ℕ → Type 0
WaitsIn actions gaps k gap = (slice_get gaps k ≡ Some gap) × (slice_get actions gap ≡ Some k → ⊥)

-- the method of a node that is decomposed
abbrev pub method_of : Label labels → Option ℕ
method_of (waits w) = None
method_of (ran w) = None
method_of (used d) = Some d.method.number

abbrev pub later_at : List Later → List (Row labels) → ℕ → Option Later
later_at laters rows k = option_and_then (slice_get laters) (option_and_then method_of (label_in rows k))

module _ (N : Net) (T : Tree N) where
  -- the siblings right after a node, each once
  abbrev pub AreRightAfter : ℕ → List ℕ → Type 0
  AreRightAfter k addresses = (i : ℕ) (q : Address) → IsNode N T k (i ∷ q) → AreDifferent addresses
      × ((y : ℕ) → Contains addresses y ↔ ((j : ℕ) × IsRightBefore N T (j ∷ q) i × IsNode N T y (j ∷ q)))

  -- how many siblings come right before a node
  abbrev pub AreRightBefore : ℕ → ℕ → Type 0
  AreRightBefore k n = (p : Address) → IsNode N T k p → HasCount (IsRightBefore N T p) n

-- all of it is that of a tree of the problem, its primitives and its gaps
pub record IsGiven (given : Given) (T : Tree (network given.c.now)) (plan : List Address) (gap : Address → ℕ) : Type 0 where
  pub setting : IsSetting given.c.now given.tree.now given.actions.now given.gaps.now T plan gap
  pub pairs : HasPairsOfChildren (network given.c.now)
  pub later : AreAllLater given.c.now given.later.now
  pub children : AreChildrenOf (network given.c.now) T given.children.now
