-- What is kept of the slots of a tree's nodes while they are taken: the slots of those that are begun, and which are free.
-- Source: this project's.
use Rattle.std.specs.Prelude.{ℕ, ◌≡◌, ◌<◌, ◌≤◌, ◌↔◌, ◌⊎◌, List, [], ◌∷◌, ◌++◌, length, Some, slice_get, slice_index}
use Rattle.plan_model.specs.declared.values.Compiled.{Compiled}
use Rattle.plan_model.specs.task_networks.Net.{Net, count}
use Rattle.plan_model.specs.task_networks.Lawful.{IsLawful}
use Rattle.plan_model.specs.task_networks.Tree.{Tree, used, Address, label_at, IsAddress}
use Rattle.plan_model.specs.task_networks.Schedule.{IsBegun}
use Rattle.plan_model.specs.task_networks.Preorder.{preorder}
use Rattle.plan_model.specs.task_networks.Pending.{IsPending}
use Rattle.plan_model.specs.task_networks.Spelling.{Act}
use Rattle.plan_model.specs.plan_meaning.Network.{network}
use Rattle.plan_model.specs.plan_meaning.Solution.{top_work}
use Rattle.schedules.specs.ruled.LowestSlots.{IsFreeFor}
use Rattle.schedules.specs.ruled.FirstFreeLaws.{SpellsLowest}
use Rattle.tree_core.specs.declared.growth.Scheduled.{Scheduled}
use Rattle.tree_core.specs.Tables.{Row, table}
use Rattle.tree_core.specs.Labels.{labels, labelled}
use Rattle.tree_core.specs.Runs.{StandsFor}
use Rattle.slot_speller.specs.declared.free.Free.{Free}
use Rattle.slot_speller.specs.declared.slots.Slots.{Slots}
use Rattle.slot_speller.specs.Free.{IsFree, IsSound}

module _ (N : Net) (tree : Tree N) (slot : Address → ℕ) where
  -- the nodes that have slots have these, by their places, and the free slots are those that are left
  pub record Keeps (Has : Address → Type 0) (IsLeft : ℕ → Type 0) (nodes : List ℕ) (free : Free) : Type 0 where
    pub sized : length nodes ≡ length (preorder N tree)
    pub known : (k : ℕ) (p : Address) → slice_get (preorder N tree) k ≡ Some p → Has p → slice_index nodes k ≡ slot p
    pub left : (x : ℕ) → 1 ≤ x → IsFree free x ↔ IsLeft x
    pub sound : IsSound free
    -- the greatest slot that was taken is that of a node, and none has a greater one
    pub within : (p : Address) → IsAddress N tree p → Has p → slot p ≤ free.greatest
    pub widest : (p : Address) × IsAddress N tree p × (slot p ≡ free.greatest)

  -- no pending node has the slot
  abbrev pub IsUnused : List Address → ℕ → Type 0
  IsUnused taken x = (q : Address) → IsPending N tree taken q → slot q ≡ x → ⊥

  -- this is kept when these are taken
  abbrev pub IsKept : List Address → Slots → Type 0
  IsKept taken s = Keeps (IsBegun taken) (IsUnused taken) s.by_node.items s.free

  -- it is begun, or one of the first i children of p
  abbrev pub HasUpTo : List Address → Address → ℕ → Address → Type 0
  HasUpTo taken p i q = IsBegun taken q ⊎ ((j : ℕ) × (j < i) × (q ≡ j ∷ p))

  -- and this when p comes next and its first i children have their slots
  abbrev pub IsKeptUpTo : List Address → Address → N.Method → ℕ → Slots → Type 0
  IsKeptUpTo taken p m i s = Keeps (HasUpTo taken p i) (IsFreeFor N tree slot taken p m i) s.by_node.items s.free

-- the root has slot 1, and all others are free
pub record AreFirst (size : ℕ) (s : Slots) : Type 0 where
  pub sized : length s.by_node.items ≡ size
  pub root : 0 < size → slice_index s.by_node.items 0 ≡ 1
  pub left : (x : ℕ) → IsFree s.free x ↔ (1 < x)
  pub sound : IsSound s.free
  pub greatest : s.free.greatest ≡ 1

module _ (c : Compiled) where
  -- the rows are those of a tree that is spelled in this order with these slots, which are the lowest
  pub record IsSetting (rows : List (Row labels)) (tree : Tree (network c)) (order : List Address) (slot : Address
      → ℕ) : Type 0 where
    pub lawful : IsLawful (network c)
    pub rows_are : rows ≡ table labels (labelled c tree)
    pub b : ℕ
    pub acts : List (Act (network c))
    pub lowest : SpellsLowest (network c) b (top_work c) acts tree order slot

  -- the node at k is taken next
  pub record TakesNode (rows : List (Row labels)) (k : ℕ) (old new : Slots) : Type 0 where
    pub keeps : (tree : Tree (network c)) (order : List Address) (slot : Address → ℕ) (taken rest : List Address) (p : Address)
        → IsSetting rows tree order slot → order ≡ taken ++ p ∷ rest → slice_get (preorder (network c) tree) k ≡ Some p
        → IsKept (network c) tree slot taken old → IsKept (network c) tree slot (taken ++ p ∷ []) new

  -- the slots of all nodes
  pub record AreSlotsOf (run : Scheduled) (s : Slots) : Type 0 where
    pub keeps : (tree : Tree (network c)) (order : List Address) (slot : Address → ℕ) → StandsFor c run tree order
        → IsSetting run.tree tree order slot → IsKept (network c) tree slot order s

-- the first n children of the node at k have their slots, where it has the slot own
pub record Plants (rows : List (Row labels)) (k own heir n : ℕ) (old new : Slots) : Type 0 where
  pub keeps : (c : Compiled) (tree : Tree (network c)) (order : List Address) (slot : Address → ℕ)
      (taken rest : List Address) (p : Address) (m : (network c).Method)
      → IsSetting c rows tree order slot → order ≡ taken ++ p ∷ rest → slice_get (preorder (network c) tree) k ≡ Some p
      → label_at (network c) tree p ≡ Some (used m) → (network c).heir m ≡ Some heir → n ≤ count (network c) m → own ≡ slot p
      → IsKeptUpTo (network c) tree slot taken p m 0 old → IsKeptUpTo (network c) tree slot taken p m n new
