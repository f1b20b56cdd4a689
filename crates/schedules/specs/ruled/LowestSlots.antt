-- First-free slots: the root has slot 1, an heir its parent's, and the other children, in number order, the lowest free ones.
-- Source: this project's.
use Rattle.std.specs.Prelude.{ℕ, ◌≡◌, ◌<◌, ◌≤◌, List, [], ◌∷◌, ◌++◌, Some, Contains}
use Rattle.plan_model.specs.task_networks.Net.{Net}
use Rattle.plan_model.specs.task_networks.Tree.{Tree, used, Address, label_at}
use Rattle.plan_model.specs.task_networks.Pending.{IsPending}
use Rattle.plan_model.specs.task_networks.Spelling.{others}

-- what is free and lower than a new slot is a new slot before it
abbrev pub AreLowestFree : (ℕ → Type 0) → List ℕ → Type 0
AreLowestFree free new = (before rest : List ℕ) (x y : ℕ) → new ≡ before ++ x ∷ rest → free y → y < x → Contains before y

-- the rule
abbrev pub LowestRule : (N : Net) → (ℕ → Type 0) → ℕ → N.Method → List ℕ → Type 0
LowestRule N free h m new = AreLowestFree free new

-- said of a front, without the number of slots
module _ (N : Net) (tree : Tree N) (slot : Address → ℕ) where
  -- x is free for child i of p, taken after these: no pending node has it, nor a child that got its slot before
  pub record IsFreeFor (taken : List Address) (p : Address) (m : N.Method) (i : ℕ) (x : ℕ) : Type 0 where
    pub positive : 1 ≤ x
    pub unused : (q : Address) → IsPending N tree taken q → slot q ≡ x → ⊥
    pub earlier : (j : ℕ) → Contains (others N m) j → j < i → slot (j ∷ p) ≡ x → ⊥

  pub record IsLowestFor (taken : List Address) (p : Address) (m : N.Method) (i : ℕ) : Type 0 where
    pub free : IsFreeFor taken p m i (slot (i ∷ p))
    pub lowest : (x : ℕ) → IsFreeFor taken p m i x → slot (i ∷ p) ≤ x

  pub record AreLowest (order : List Address) : Type 0 where
    pub root : slot [] ≡ 1
    pub heirs : (p : Address) (m : N.Method) (i : ℕ) → label_at N tree p ≡ Some (used m) → N.heir m ≡ Some i → slot (i ∷ p) ≡ slot p
    pub new : (taken rest : List Address) (p : Address) (m : N.Method) (i : ℕ) → order ≡ taken ++ p ∷ rest
        → label_at N tree p ≡ Some (used m)
        → Contains (others N m) i → IsLowestFor taken p m i
