-- Another machine that takes acts, as that of a classical plan does.
use Rattle.std.specs.Prelude.{ℕ, ◌≡◌, ◌↔◌, List, [], ◌∷◌, ◌++◌}
use Rattle.plan_model.specs.task_networks.Net.{Net}
use Rattle.plan_model.specs.task_networks.Tree.{Tree, Address}
use Rattle.plan_model.specs.task_networks.Spelling.{Act, Spells}
use Rattle.slot_machine.specs.Machine.{SlotState, start, May, after_act, end_of}

-- two states say the same
pub record AreSame (N : Net) (s t : SlotState N) : Type 0 where
  pub holds : (x : ℕ) (w : N.Work) → s.holds x w ↔ t.holds x w
  pub free : (x : ℕ) → s.free x ↔ t.free x
  pub before : (x y : ℕ) → s.before x y ↔ t.before x y

-- it takes each act after those before it
abbrev pub TakesAll : (N : Net) → (List (Act N) → Act N → Type 0) → List (Act N) → Type 0
TakesAll N Takes acts = (taken rest : List (Act N)) (a : Act N) → acts ≡ taken ++ a ∷ rest → Takes taken a

-- `read acts` is what its state after these acts says of the slots
module _ (N : Net) (read : List (Act N) → SlotState N) (Takes : List (Act N) → Act N → Type 0) where
  -- after acts that spell a front, where its state says what the slot machine's does,
  -- it takes the same acts, and its state says what the slot machine's does after one
  pub record AgreesAtFronts (b : ℕ) (top : N.Work) : Type 0 where
    pub first : AreSame N (read []) (start N b top)
    pub may : (acts : List (Act N)) (tree : Tree N) (order : List Address) (slot : Address → ℕ) (a : Act N)
        → Spells N b top acts tree order slot → AreSame N (read acts) (end_of N (start N b top) acts)
        → Takes acts a ↔ May N (end_of N (start N b top) acts) a
    pub step : (acts : List (Act N)) (tree : Tree N) (order : List Address) (slot : Address → ℕ) (a : Act N)
        → Spells N b top acts tree order slot → AreSame N (read acts) (end_of N (start N b top) acts) → May N (end_of N (start N b top) acts) a
        → AreSame N (read (acts ++ a ∷ [])) (after_act N (end_of N (start N b top) acts) a)
