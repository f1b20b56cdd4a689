-- A child's cap: the least of its parent's and of the gaps of the siblings right after it, if there are any.
use Rattle.std.proofs.Common.{ℕ, ◌≡◌, ◌≤◌, ◌↔◌, inl, inr, List, ◌∷◌, Some, sym, subst, arith}
use Rattle.plan_model.specs.task_networks.Order.{Precedes, direct, through}
use Rattle.plan_model.specs.task_networks.Net.{Net}
use Rattle.plan_model.specs.task_networks.Tree.{Tree, Address, used, label_at, IsAddress}
use Rattle.plan_model.proofs.task_networks.Addresses.{below-itself}
use Rattle.schedules.specs.latest.OnePass.{IsUnder, IsCap}
use Rattle.schedules.proofs.latest.OnePass.{blocks_child, blocks_parent}

module _ (N : Net) (tree : Tree N) (plan : List Address) (gap : Address → ℕ) where
  pub capped : (i : ℕ) (p : Address) (m : N.Method) (cap least : ℕ) → label_at N tree p ≡ Some (used m) → IsCap N tree plan gap p cap
      → ((j l : ℕ) → IsAddress N tree (j ∷ p) → IsAddress N tree (l ∷ p) → Precedes (N.Pair m) i j → N.Pair m j l
      → gap (j ∷ p) ≤ gap (l ∷ p))
      → ((j l : ℕ) → N.Pair m j l → IsAddress N tree (j ∷ p))
      → ((k : ℕ) → (k ≤ least) ↔ ((k ≤ cap) × ((j : ℕ) → IsAddress N tree (j ∷ p) → N.Pair m i j → k ≤ gap (j ∷ p))))
      → IsCap N tree plan gap (i ∷ p) least
  capped i p m cap least e is_cap sorted nodes is_least k = (to, from)
    where
      to : IsUnder N tree plan gap (i ∷ p) k → k ≤ least
      to u = (is_least k).1 (
        (is_cap k).0 (record { range = u.range; later = λ v a b. u.later v a (blocks_parent N tree plan i p v b) }),
        λ j a h. u.later (j ∷ p) a (m, i, e, direct h, below-itself (i ∷ p)),
      )

      along : ((j : ℕ) → IsAddress N tree (j ∷ p) → N.Pair m i j → k ≤ gap (j ∷ p)) → (j : ℕ) → IsAddress N tree (j ∷ p)
          → Precedes (N.Pair m) i j → k ≤ gap (j ∷ p)
      along f j a (direct h) = f j a h
      along f l a (through {j = j} c h) = let x = along f j (nodes j l h) c in let y = sorted j l (nodes j l h) a c h in omega arith

      from : k ≤ least → IsUnder N tree plan gap (i ∷ p) k
      from l =
          let b = (is_least k).0 l in
          let u : IsUnder N tree plan gap p k = (is_cap k).1 b.0 in
          record {
            range = u.range;
            later = λ v a b'. elim (blocks_child N tree plan i p m e v b') [
              | inl c ↦ u.later v a c
              | inr (j, g, h) ↦ subst (λ z. k ≤ gap z) (sym g) (along b.1 j (subst (IsAddress N tree) g a) h)
            ];
          }
