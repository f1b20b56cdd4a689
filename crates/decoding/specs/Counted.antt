-- The numbers that a decoder keeps of a front, and how they are brought up to date.
-- At the slot of each open leaf stands how many of its direct predecessors aren't whole, and at the place of each decomposed task in the
-- order how many of its children aren't.
-- Source: this project's.
use Rattle.std.specs.Prelude.{ℕ, suc, ◌≡◌, ◌≢◌, ◌<◌, List, [], ◌∷◌, slice_get, Some}
use Rattle.plan_model.specs.task_networks.Net.{Net, count}
use Rattle.plan_model.specs.task_networks.Tree.{Tree, used, Address, IsAbove, label_at, IsOpen}
use Rattle.plan_model.specs.task_networks.Spelling.{Act}
use Rattle.decoding.specs.FailingAct.{slot_in}
use Rattle.decoding.specs.Waiting.{AreMany, BlockedBy, OpenChildren, BecomesWhole}
use Rattle.decoding.specs.HeldLeaves.{IsChildSlot}

module _ (N : Net) where
  -- at the node q of a tree, and at its children, the numbers are those of another tree
  pub record AreNumbersOf (of tree : Tree N) (order : List Address) (slot : Address → ℕ) (blocked open_at : ℕ
      → ℕ) (q : Address) : Type 0 where
    pub blocked_by : (j : ℕ) → IsOpen N tree (j ∷ q) → BlockedBy N of q j (blocked (slot (j ∷ q)))
    pub open_children : (k : ℕ) (m : N.Method) → slice_get order k ≡ Some q → label_at N tree q ≡ Some (used m)
        → OpenChildren N of q (open_at k)

  -- all numbers are those of the tree; the root waits for none
  pub record AreCounted (tree : Tree N) (order : List Address) (slot : Address → ℕ) (blocked open_at : ℕ → ℕ) : Type 0 where
    pub root : IsOpen N tree [] → blocked (slot []) ≡ 0
    pub each : (q : Address) → AreNumbersOf tree tree order slot blocked open_at q

  -- On the way from a leaf that was processed to the root: what stands at u has become whole, and has been told to what is below it.
  -- So at u and below it the numbers are those of the new tree, and elsewhere those of the old one.
  pub record IsWhole (old tree : Tree N) (order : List Address) (slot : Address → ℕ) (blocked open_at : ℕ → ℕ) (u : Address) : Type 0 where
    pub whole : BecomesWhole N old tree u
    pub below : (q : Address) → IsAbove u q → AreNumbersOf tree tree order slot blocked open_at q
    pub others : (q : Address) → (IsAbove u q → ⊥) → AreNumbersOf old tree order slot blocked open_at q

  -- the same, where a child of u has become whole, and has been told to u
  pub record IsToldTo (old tree : Tree N) (order : List Address) (slot : Address → ℕ) (blocked open_at : ℕ → ℕ) (u : Address) : Type 0 where
    pub child : (i : ℕ) × BecomesWhole N old tree (i ∷ u)
    pub below : (q : Address) → IsAbove u q → AreNumbersOf tree tree order slot blocked open_at q
    pub others : (q : Address) → (IsAbove u q → ⊥) → AreNumbersOf old tree order slot blocked open_at q

  -- child i of q, which is decomposed by m and has place k in the order, is whole: one less at each child that it comes right before, and
  -- one less at q
  pub record AreLowered (m : N.Method) (slot : Address → ℕ) (q : Address) (i k : ℕ) (blocked open_at blocked' open_at' : ℕ
      → ℕ) : Type 0 where
    pub blocked_falls : (j : ℕ) → N.Pair m i j → blocked (slot (j ∷ q)) ≡ suc (blocked' (slot (j ∷ q)))
    pub blocked_stays : (x : ℕ) → ((j : ℕ) → N.Pair m i j → x ≢ slot (j ∷ q)) → blocked' x ≡ blocked x
    pub open_falls : open_at k ≡ suc (open_at' k)
    pub open_stays : (x : ℕ) → x ≢ k → open_at' x ≡ open_at x

  -- the numbers of the children of an act's method, and of the act's node, which has place k in the order: those of the method's pairs, and
  -- all children
  pub record AreNumberedNew (a : Act N) (m : N.Method) (k : ℕ) (blocked open_at blocked' open_at' : ℕ → ℕ) : Type 0 where
    pub children : (j x : ℕ) → IsChildSlot N a j x → AreMany (λ i. N.Pair m i j) (blocked' x)
    pub others : (x : ℕ) → x ≢ slot_in N a → ((j : ℕ) → IsChildSlot N a j x → ⊥) → blocked' x ≡ blocked x
    pub all_open : open_at' k ≡ count N m
    pub earlier : (x : ℕ) → x < k → open_at' x ≡ open_at x

  -- an act without children, which has place k in the order: no child is open, and other numbers stay
  pub record AreNumberedNone (a : Act N) (k : ℕ) (blocked open_at blocked' open_at' : ℕ → ℕ) : Type 0 where
    pub others : (x : ℕ) → x ≢ slot_in N a → blocked' x ≡ blocked x
    pub none_open : open_at' k ≡ 0
    pub earlier : (x : ℕ) → x < k → open_at' x ≡ open_at x
