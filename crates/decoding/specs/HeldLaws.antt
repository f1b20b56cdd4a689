-- What is proved of what a decoder keeps.
use Rattle.std.specs.Prelude.{ℕ, ◌≡◌, ◌↔◌, List, [], ◌∷◌, ◌++◌, length, Option, Some, None}
use Rattle.plan_model.specs.task_networks.Net.{Net}
use Rattle.plan_model.specs.task_networks.Tree.{Tree, open_leaf, Address, IsOpen}
use Rattle.plan_model.specs.task_networks.Spelling.{Act, Spells}
use Rattle.slot_machine.specs.Reached.{HasLeaf}
use Rattle.tree_core.specs.Growths.{Growth}
use Rattle.decoding.specs.FailingAct.{slot_in}
use Rattle.decoding.specs.HeldLeaves.{Leaf, Fits, growth_of, AreHeldAfter}

module _ (N : Net) where
  -- at first slot 1 holds the top work, and nothing has grown
  abbrev pub FitsAtFirst : Type 0
  FitsAtFirst = (top : N.Work) (held : ℕ → Option (Leaf N)) (slot : Address → ℕ) → slot [] ≡ 1
      → held 1 ≡ Some (record { parent = None; child = 0; work = top }) → ((x : ℕ) → (x ≡ 1 → ⊥) → held x ≡ None)
      → Fits N [] held (open_leaf top) [] slot

  -- a slot holds a work exactly where what is kept says so; a slot is an open leaf's exactly where something is kept at it
  pub record HeldTells (held : ℕ → Option (Leaf N)) (tree : Tree N) (slot : Address → ℕ) : Type 0 where
    pub holds : (x : ℕ) (w : N.Work) → HasLeaf N tree slot x w ↔ ((leaf : Leaf N) × (held x ≡ Some leaf) × (leaf.work ≡ w))
    pub is_held : (x : ℕ) → ((p : Address) × IsOpen N tree p × (slot p ≡ x)) ↔ ((leaf : Leaf N) × (held x ≡ Some leaf))

  abbrev pub FittingTells : Type 0
  FittingTells = (b : ℕ) (top : N.Work) (acts : List (Act N)) (tree : Tree N) (order : List Address) (slot : Address
      → ℕ) (growths : List (Growth N)) (held : ℕ → Option (Leaf N))
      → Spells N b top acts tree order slot → Fits N growths held tree order slot → HeldTells held tree slot

  -- a step keeps it: the leaf of the act's slot grows, and its children hang under this growth
  abbrev pub StepFits : Type 0
  StepFits = (b : ℕ) (top : N.Work) (acts : List (Act N)) (a : Act N) (tree grown : Tree N) (order longer : List Address)
      (slot slots : Address → ℕ) (growths : List (Growth N)) (held held' : ℕ → Option (Leaf N)) (leaf : Leaf N)
      → Spells N b top acts tree order slot → Spells N b top (acts ++ a ∷ []) grown longer slots → Fits N growths held tree order slot
      → held (slot_in N a) ≡ Some leaf → AreHeldAfter N held held' a (length growths)
      → Fits N (growths ++ growth_of N leaf a ∷ []) held' grown longer slots
