-- The laws of a network: what its orders, heirs and copiers owe.
use Rattle.std.specs.Prelude.{ℕ, ◌≡◌, ◌<◌, ◌⊎◌, Some}
use Rattle.plan_model.specs.task_networks.Order.{Precedes, IsAcyclic, ArePairsOf}
use Rattle.plan_model.specs.task_networks.Net.{Net, count}

-- a child that takes over the pairs that leave its task
abbrev pub TakesOver : (N : Net) → N.Method → ℕ → Type 0
TakesOver N m i = (N.heir m ≡ Some i) ⊎ N.IsCopier m i

pub record IsLawful (N : Net) : Type 0 where
  -- pairs are of children
  pub pairs : (m : N.Method) → ArePairsOf (N.Pair m) (count N m)
  pub acyclic : (m : N.Method) → IsAcyclic (N.Pair m)
  -- a method with children has an heir
  pub has_heir : (m : N.Method) → 0 < count N m → (i : ℕ) × (N.heir m ≡ Some i)
  pub heir_is_child : (m : N.Method) (i : ℕ) → N.heir m ≡ Some i → i < count N m
  pub copier_is_child : (m : N.Method) (i : ℕ) → N.IsCopier m i → i < count N m
  -- each child takes over, or precedes one that does
  pub covered : (m : N.Method) (i : ℕ) → i < count N m → TakesOver N m i ⊎ ((c : ℕ) × Precedes (N.Pair m) i c × TakesOver N m c)
