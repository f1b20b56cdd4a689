-- What is proved of waiting, and of the numbers that count it.
use Rattle.std.specs.Prelude.{ℕ, suc, ◌≡◌, ◌≤◌, ◌↔◌, List, [], ◌∷◌, ◌++◌, map, Some}
use Rattle.plan_model.specs.task_networks.Net.{Net, count}
use Rattle.plan_model.specs.task_networks.Tree.{Tree, Label, waits, used, Address, IsAbove, label_at, IsAddress, IsOpen, IsGrown}
use Rattle.plan_model.specs.task_networks.Schedule.{IsSchedule}
use Rattle.plan_model.specs.task_networks.Spelling.{Act, label_of, numbers, IsAct, Spells}
use Rattle.slot_machine.specs.Machine.{with_heir}
use Rattle.slot_machine.specs.Causes.{IsWaiting}
use Rattle.slot_machine.specs.Reached.{SameSlots}
use Rattle.decoding.specs.FailingAct.{slot_in, work_in, new_in}
use Rattle.decoding.specs.Waiting.{AreMany, works_below, Grows, HasOpen, IsOpenBefore, WaitsDirectly, BlockedBy, OpenChildren, BecomesWhole}

-- one number at most is counted
abbrev pub ManyIsOne : (ℕ → Type 0) → Type 0
ManyIsOne P = (n m : ℕ) → AreMany P n → AreMany P m → n ≡ m

module _ (N : Net) where
  -- in a front an open leaf waits exactly where a sibling with a direct pair before it isn't whole
  abbrev pub WaitingIsLocal : Type 0
  WaitingIsLocal = (tree : Tree N) (order : List Address) (p : Address) → IsGrown N tree → IsSchedule N tree order → IsOpen N tree p
      → IsWaiting N tree p ↔ WaitsDirectly N tree p

  -- a child that must wait for a sibling is an open leaf itself
  abbrev pub WhoWaitsIsOpen : Type 0
  WhoWaitsIsOpen = (tree : Tree N) (order : List Address) (q : Address) (i j : ℕ) → IsGrown N tree → IsSchedule N tree order
      → IsOpenBefore N tree q j i → IsOpen N tree (j ∷ q)

  -- so a number tells it
  abbrev pub NumberTellsWaiting : Type 0
  NumberTellsWaiting = (tree : Tree N) (j : ℕ) (q : Address) (n : ℕ) → BlockedBy N tree q j n → WaitsDirectly N tree (j ∷ q) ↔ (1 ≤ n)

  -- a decomposed node is whole exactly where none of its children is open
  abbrev pub NumberTellsWhole : Type 0
  NumberTellsWhole = (tree : Tree N) (q : Address) (m : N.Method) (n : ℕ) → label_at N tree q ≡ Some (used m) → OpenChildren N tree q n
      → HasOpen N tree q ↔ (1 ≤ n)

  -- one more act of a spelling processes one open leaf, at its slot, and changes nothing else
  pub record IsNextStep (a : Act N) (tree tree' : Tree N) (order order' : List Address) (slot slot' : Address → ℕ) : Type 0 where
    pub leaf : Address
    pub is : label_at N tree leaf ≡ Some (waits (work_in N a))
    pub at_slot : slot leaf ≡ slot_in N a
    pub ordered : order' ≡ order ++ leaf ∷ []
    pub grows : Grows N tree tree' leaf (label_of N a)
    pub same : SameSlots N tree slot slot'
    pub act : IsAct N tree' slot' leaf a
    -- the children's slots: the heir has the leaf's, the others the new ones
    pub children : (m : N.Method) → label_of N a ≡ used m
        → with_heir (N.heir m) (slot_in N a) (new_in N a) ≡ map (λ i. slot' (i ∷ leaf)) (numbers 0 (count N m))

  abbrev pub StepIsNext : Type 0
  StepIsNext = (b : ℕ) (top : N.Work) (acts : List (Act N)) (a : Act N) (tree tree' : Tree N) (order order' : List Address)
      (slot slot' : Address → ℕ)
      → Spells N b top acts tree order slot → Spells N b top (acts ++ a ∷ []) tree' order' slot'
      → IsNextStep a tree tree' order order' slot slot'

  module _ (tree tree' : Tree N) (p : Address) (l : Label N) where
    -- what becomes whole lies on the way from p to the root: the leaf itself, where it has no children
    abbrev pub WholeOnTheWay : Type 0
    WholeOnTheWay = (q : Address) → BecomesWhole N tree tree' q → IsAbove q p

    abbrev pub LeafIsWhole : Type 0
    LeafIsWhole = BecomesWhole N tree tree' p ↔ (works_below N l ≡ [])

    -- and what is whole stays so
    abbrev pub StaysWhole : Type 0
    StaysWhole = (q : Address) → IsAddress N tree q → HasOpen N tree' q → HasOpen N tree q

    -- where a child becomes whole, exactly the numbers of those that it comes right before fall, by one
    abbrev pub BlockedFalls : Type 0
    BlockedFalls = (q : Address) (j i n : ℕ) → IsAddress N tree (j ∷ q) → IsOpenBefore N tree q j i → (HasOpen N tree' (i ∷ q) → ⊥)
        → BlockedBy N tree q j (suc n) → BlockedBy N tree' q j n

    abbrev pub BlockedStays : Type 0
    BlockedStays = (q : Address) (j n : ℕ) → IsAddress N tree (j ∷ q) → ((i : ℕ) → IsOpenBefore N tree q j i → HasOpen N tree' (i ∷ q))
        → BlockedBy N tree q j n → BlockedBy N tree' q j n

    -- and its parent's number of open children
    abbrev pub ChildrenFall : Type 0
    ChildrenFall = (q : Address) (i n : ℕ) → IsAddress N tree (i ∷ q) → BecomesWhole N tree tree' (i ∷ q) → OpenChildren N tree q (suc n)
        → OpenChildren N tree' q n

    abbrev pub ChildrenStay : Type 0
    ChildrenStay = (q : Address) (n : ℕ) (m : N.Method) → label_at N tree q ≡ Some (used m)
        → ((i : ℕ) → HasOpen N tree (i ∷ q) → HasOpen N tree' (i ∷ q)) → OpenChildren N tree q n → OpenChildren N tree' q n

    -- the numbers of the new nodes: those of the method's pairs, and all children
    abbrev pub NewBlocked : Type 0
    NewBlocked = (m : N.Method) (j n : ℕ) → l ≡ used m → AreMany (λ i. N.Pair m i j) n → BlockedBy N tree' p j n

    abbrev pub NewChildren : Type 0
    NewChildren = (m : N.Method) → l ≡ used m → OpenChildren N tree' p (count N m)

  -- all numbers after one leaf is processed
  pub record NumbersChange (tree tree' : Tree N) (p : Address) (l : Label N) : Type 0 where
    pub on_the_way : WholeOnTheWay tree tree' p l
    pub leaf : LeafIsWhole tree tree' p l
    pub stays_whole : StaysWhole tree tree' p l
    pub blocked_falls : BlockedFalls tree tree' p l
    pub blocked_stays : BlockedStays tree tree' p l
    pub children_fall : ChildrenFall tree tree' p l
    pub children_stay : ChildrenStay tree tree' p l
    pub new_blocked : NewBlocked tree tree' p l
    pub new_children : NewChildren tree tree' p l

  abbrev pub GrowingChangesNumbers : Type 0
  GrowingChangesNumbers = (tree tree' : Tree N) (p : Address) (l : Label N) → Grows N tree tree' p l → NumbersChange tree tree' p l
