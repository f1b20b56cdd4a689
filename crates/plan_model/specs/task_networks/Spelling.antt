-- Spellings of a front: a list of acts, one for each processed node, that name slots from 1 to b.
-- Source: the translation of Alford et al., "Bound to Plan", ICAPS 2016, said of whole trees with a function of slots.
use Rattle.std.specs.Prelude.{ℕ, zero, suc, ◌≡◌, ◌≤◌, List, [], ◌∷◌, ◌++◌, map, filter, Bool, false, not, ◌==◌, Option, Some, None}
use Rattle.plan_model.specs.task_networks.Net.{Net, count}
use Rattle.plan_model.specs.task_networks.Tree.{Tree, Label, ran, used, Address, label_at, IsAddress}
use Rattle.plan_model.specs.task_networks.Pending.{IsPending}
use Rattle.plan_model.specs.task_networks.Front.{IsFront}

-- an action or a check at slot h, or a method at slot h with new slots for the children other than the heir
pub data Act (N : Net) : Type 0 where
  run : (h : ℕ) → N.Work → Act N
  apply : (h : ℕ) (new : List ℕ) → N.Method → Act N

-- the numbers from i on, n of them
abbrev pub numbers : ℕ → ℕ → List ℕ
numbers i zero = []
numbers i (suc n) = i ∷ numbers (suc i) n

abbrev pub is_heir : Option ℕ → ℕ → Bool
is_heir None i = false
is_heir (Some k) i = k == i

-- the children other than the heir, in number order
abbrev pub others : (N : Net) → N.Method → List ℕ
others N m = filter (λ i. not (is_heir (N.heir m) i)) (numbers 0 (count N m))

module _ (N : Net) where
  -- what is processed by an act
  abbrev pub label_of : Act N → Label N
  label_of (run h w) = ran w
  label_of (apply h new m) = used m

  module _ (tree : Tree N) (slot : Address → ℕ) where
    -- the act of the node at p
    abbrev pub IsAct : Address → Act N → Type 0
    IsAct p (run h w) = (label_at N tree p ≡ Some (ran w)) × (h ≡ slot p)
    IsAct p (apply h new m) = (label_at N tree p ≡ Some (used m)) × (h ≡ slot p) × (new ≡ map (λ i. slot (i ∷ p)) (others N m))

    -- one act for each node, in order
    abbrev pub AreActs : List Address → List (Act N) → Type 0
    AreActs [] [] = Unit {0}
    AreActs (p ∷ ps) (a ∷ acts) = IsAct p a × AreActs ps acts
    AreActs [] (a ∷ acts) = ⊥
    AreActs (p ∷ ps) [] = ⊥

  -- the acts spell the front, with b slots, from the top work
  pub record Spells (b : ℕ) (top : N.Work)
      (acts : List (Act N)) (tree : Tree N) (order : List Address) (slot : Address → ℕ) : Type 0 where
    pub front : IsFront N top tree order
    pub root : slot [] ≡ 1
    pub range : (p : Address) → IsAddress N tree p → (1 ≤ slot p) × (slot p ≤ b)
    pub heirs : (p : Address) (m : N.Method) (i : ℕ) → label_at N tree p ≡ Some (used m) → N.heir m ≡ Some i → slot (i ∷ p) ≡ slot p
    -- at no time have two pending nodes the same slot
    pub apart : (taken rest : List Address) → order ≡ taken ++ rest → (u v : Address) → IsPending N tree taken u → IsPending N tree taken v → slot u ≡ slot v → u ≡ v
    pub spelled : AreActs tree slot order acts
