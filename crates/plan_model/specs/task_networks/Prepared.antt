-- A network whose heirs and copiers are those of its orders.
use Rattle.std.specs.Prelude.{ℕ, ◌≡◌, ◌<◌, ◌⊎◌, ◌↔◌, Some}
use Rattle.plan_model.specs.task_networks.Order.{IsAcyclic, ArePairsOf, IsHeir, IsMaximal}
use Rattle.plan_model.specs.task_networks.Net.{Net, count}

pub record IsPrepared (N : Net) : Type 0 where
  pub pairs : (m : N.Method) → ArePairsOf (N.Pair m) (count N m)
  pub acyclic : (m : N.Method) → IsAcyclic (N.Pair m)
  -- each child has a pair to another, or none
  pub next : (m : N.Method) (i : ℕ) → ((j : ℕ) × N.Pair m i j) ⊎ ((j : ℕ) → N.Pair m i j → ⊥)
  -- a method with children has an heir, the last of its line
  pub has_heir : (m : N.Method) → 0 < count N m → (i : ℕ) × (N.heir m ≡ Some i)
  pub heir_is : (m : N.Method) (i : ℕ) → N.heir m ≡ Some i → IsHeir (N.Pair m) (count N m) i
  -- the copiers are the maximal children other than the heir
  pub copiers : (m : N.Method) (i : ℕ) → N.IsCopier m i ↔ (IsMaximal (N.Pair m) (count N m) i × (N.heir m ≡ Some i → ⊥))
