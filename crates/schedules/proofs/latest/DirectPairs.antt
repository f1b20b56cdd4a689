-- What code counts: a node is clear where the subtrees of the siblings right before it are taken whole.
use Rattle.std.proofs.Common.{ℕ, ◌≡◌, inl, inr, List, ◌∷◌, ◌++◌, Some, sym, subst, Contains}
use Rattle.std.proofs.lemmas.List.Elements.{Contains-append_left}
use Rattle.plan_model.specs.task_networks.Order.{Precedes, direct, through}
use Rattle.plan_model.specs.task_networks.Net.{Net}
use Rattle.plan_model.specs.task_networks.Tree.{Tree, Address, used, label_at, IsAddress, IsAbove}
use Rattle.plan_model.specs.task_networks.Schedule.{Blocks, IsDue}
use Rattle.plan_model.proofs.task_networks.Addresses.{below-itself, below_cases}
use Rattle.plan_model.proofs.task_networks.Lists.{cut_at}
use Rattle.schedules.specs.latest.Queue.{IsWhole}

module _ (N : Net) (tree : Tree N) (taken : List Address) where
  abbrev Whole : Address → Type 0
  Whole p = IsWhole N tree taken p

  -- a subtree is whole where its root is taken and the subtrees of the children are whole
  pub whole_by_children : (p : Address) → Contains taken p → ((k : ℕ) → Whole (k ∷ p)) → Whole p
  whole_by_children p c h u a b = elim (below_cases p u b) [ inl e ↦ subst (Contains taken) (sym e) c | inr (k, d) ↦ h k u a d ]

  -- a node is clear where those of the siblings right before it are
  pub direct_pairs_do : (due : (before rest : List Address) (p : Address) → taken ≡ before ++ p ∷ rest → IsDue N tree before p) (j : ℕ) (q : Address) (m : N.Method)
      → label_at N tree q ≡ Some (used m) → ((i k : ℕ) → N.Pair m i k → IsAddress N tree (i ∷ q)) → ((i : ℕ) → N.Pair m i j → Whole (i ∷ q))
      → (u : Address) → IsAddress N tree u → Blocks N tree u (j ∷ q) → Contains taken u
  direct_pairs_do due j q m e nodes h u a (n, i, f, c, b) = go i (subst (λ z. Precedes (N.Pair z) i j) (let g : n ≡ m = cc in g) c) b
    where
      go : (i : ℕ) → Precedes (N.Pair m) i j → IsAbove (i ∷ q) u → Contains taken u
      go i (direct d) b = h i d u a b
      go i (through {j = k} d p) b =
          let (before, rest, x) = cut_at taken (k ∷ q) (h k p (k ∷ q) (nodes k j p) (below-itself (k ∷ q))) in
          subst (λ z. Contains z u) (sym x) (Contains-append_left before ((k ∷ q) ∷ rest) u ((due before rest (k ∷ q) x).clear u a (m, i, e, d, b)))
