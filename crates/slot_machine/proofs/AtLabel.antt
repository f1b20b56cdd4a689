-- The network at a label: nothing at an action or a check.
use Rattle.std.proofs.Common.{ℕ, ◌≡◌, ◌<◌, ◌⊎◌, inl, inr, [], ◌∷◌, length, Option, Some, None, refl, subst, arith}
use Rattle.plan_model.specs.task_networks.Order.{Precedes, direct}
use Rattle.plan_model.specs.task_networks.Net.{Net, count}
use Rattle.plan_model.specs.task_networks.Lawful.{IsLawful}
use Rattle.plan_model.specs.task_networks.Tree.{Label, waits, ran, used, Tree, Address, label_at, IsAbove}
use Rattle.plan_model.specs.task_networks.Schedule.{Blocks}
use Rattle.plan_model.proofs.task_networks.Addresses.{not-below_parent}
use Rattle.plan_model.proofs.task_networks.Orders.{precedes_within, last_pair}
use Rattle.slot_machine.proofs.Growth.{child_works}

module _ (N : Net) where
  abbrev pub heir_of : Label N → Option ℕ
  heir_of (waits w) = None
  heir_of (ran w) = None
  heir_of (used m) = N.heir m

  abbrev pub PairOf : Label N → ℕ → ℕ → Type 0
  PairOf (waits w) i j = ⊥
  PairOf (ran w) i j = ⊥
  PairOf (used m) i j = N.Pair m i j

  abbrev pub PrecedesOf : Label N → ℕ → ℕ → Type 0
  PrecedesOf (waits w) i j = ⊥
  PrecedesOf (ran w) i j = ⊥
  PrecedesOf (used m) i j = Precedes (N.Pair m) i j

  abbrev pub CopierOf : Label N → ℕ → Type 0
  CopierOf (waits w) i = ⊥
  CopierOf (ran w) i = ⊥
  CopierOf (used m) i = N.IsCopier m i

  abbrev pub TakesOverOf : Label N → ℕ → Type 0
  TakesOverOf l i = (heir_of l ≡ Some i) ⊎ CopierOf l i

  module _ (law : IsLawful N) where
    pub heir_exists : (l : Label N) → 0 < length (child_works N l) → (i : ℕ) × (heir_of l ≡ Some i)
    heir_exists (waits w) h = absurd (omega arith)
    heir_exists (ran w) h = absurd (omega arith)
    heir_exists (used m) h = law.has_heir m h

    pub heir_within : (l : Label N) (i : ℕ) → heir_of l ≡ Some i → i < length (child_works N l)
    heir_within (waits w) i h = absurd cc
    heir_within (ran w) i h = absurd cc
    heir_within (used m) i h = law.heir_is_child m i h

    pub copier_within : (l : Label N) (i : ℕ) → CopierOf l i → i < length (child_works N l)
    copier_within (waits w) i h = absurd h
    copier_within (ran w) i h = absurd h
    copier_within (used m) i h = law.copier_is_child m i h

    pub pair_within : (l : Label N) (i j : ℕ) → PrecedesOf l i j → (i < length (child_works N l)) × (j < length (child_works N l))
    pair_within (waits w) i j h = absurd h
    pair_within (ran w) i j h = absurd h
    pair_within (used m) i j h = precedes_within (count N m) i j (law.pairs m) h

    pub from_pair : (l : Label N) (i j : ℕ) → PairOf l i j → PrecedesOf l i j
    from_pair (waits w) i j h = h
    from_pair (ran w) i j h = h
    from_pair (used m) i j h = direct h

    pub last_pair_of : (l : Label N) (i j : ℕ) → PrecedesOf l i j → PairOf l i j ⊎ ((k : ℕ) × PrecedesOf l i k × PairOf l k j)
    last_pair_of (waits w) i j h = absurd h
    last_pair_of (ran w) i j h = absurd h
    last_pair_of (used m) i j h = last_pair i j h

    pub covered : (l : Label N) (i : ℕ) → i < length (child_works N l) → TakesOverOf l i ⊎ ((c : ℕ) × PrecedesOf l i c × TakesOverOf l c)
    covered (waits w) i h = absurd (omega arith)
    covered (ran w) i h = absurd (omega arith)
    covered (used m) i h = law.covered m i h

    pub blocks_sibling : (tree : Tree N) (p : Address) (l : Label N) (i j : ℕ) → label_at N tree p ≡ Some l → PrecedesOf l i j → Blocks N tree (i ∷ p) (j ∷ p)
    blocks_sibling tree p (waits w) i j e h = absurd h
    blocks_sibling tree p (ran w) i j e h = absurd h
    blocks_sibling tree p (used m) i j e h = (m, i, e, h, inl refl)

    pub sibling_blocks : (tree : Tree N) (p : Address) (l : Label N) (i j : ℕ) → label_at N tree p ≡ Some l → Blocks N tree (i ∷ p) (j ∷ p) → PrecedesOf l i j
    sibling_blocks tree p (waits w) i j e (m, k, f, h, c) = absurd cc
    sibling_blocks tree p (ran w) i j e (m, k, f, h, c) = absurd cc
    sibling_blocks tree p (used n) i j e (m, k, f, h, c) = go c
      where
        same : m ≡ n
        same = cc

        go : (k ∷ p ≡ i ∷ p) ⊎ IsAbove (k ∷ p) p → Precedes (N.Pair n) i j
        go (inl x) = let y : k ≡ i = cc in subst (λ z. Precedes (N.Pair n) z j) y (subst (λ z. Precedes (N.Pair z) k j) same h)
        go (inr x) = absurd (not-below_parent k p x)

    pub not-blocks_itself : (tree : Tree N) (v : Address) → Blocks N tree v v → ⊥
    not-blocks_itself tree [] b = b
    not-blocks_itself tree (j ∷ q) (m, i, e, h, c) = go c
      where
        go : (i ∷ q ≡ j ∷ q) ⊎ IsAbove (i ∷ q) q → ⊥
        go (inl x) = let y : i ≡ j = cc in law.acyclic m j (subst (λ z. Precedes (N.Pair m) z j) y h)
        go (inr x) = not-below_parent i q x
