-- What the order of a compiled method's children gives.
use Rattle.std.specs.Prelude.{ℕ, ◌≡◌, ◌≢◌, ◌<◌, ◌↔◌, Bool, IsTrue, List, Option, Some, Contains}
use Rattle.std.specs.List.Sorted.{IsStrictlyIncreasing}
use Rattle.plan_model.specs.task_networks.Order.{IsLine, IsMaximal}
use Rattle.plan_model.specs.declared.networks.Pair.{Pair}
use Rattle.plan_model.specs.plan_meaning.Compilation.{last_of}
use Rattle.plan_model.specs.Pairs.{Pairs}
use Rattle.plan_model.specs.net_order.Answers.{Answers, heir, maximal}
use Rattle.bound_calc.specs.declared.method_precs.orders.Ordered.{Ordered}

abbrev pub IsCopier : (ℕ → Bool) → Option ℕ → ℕ → Type 0
IsCopier maximal heir i = IsTrue (maximal i) × (heir ≢ Some i)

-- the children of this mark other than the heir, in number order
pub record AreCopiers (count : ℕ) (maximal : ℕ → Bool) (heir : Option ℕ) (copiers : List ℕ) : Type 0 where
  pub each : (i : ℕ) → Contains copiers i ↔ ((i < count) × IsCopier maximal heir i)
  pub in_order : IsStrictlyIncreasing copiers

pub record IsOrdered (count : ℕ) (pairs : List Pair) (ordered : Ordered) : Type 0 where
  pub line : IsLine (Pairs pairs) count ordered.line
  pub heir : ordered.heir ≡ last_of ordered.line
  pub copiers : (i : ℕ) → Contains ordered.copiers i ↔ (IsMaximal (Pairs pairs) count i × (ordered.heir ≢ Some i))
  pub copiers_in_order : IsStrictlyIncreasing ordered.copiers

-- the line, the heir and the copiers that the order of so many children answers
pub record IsOrderedBy (order : Answers) (count : ℕ) (ordered : Ordered) : Type 0 where
  pub line : ordered.line ≡ order.line
  pub heir : ordered.heir ≡ heir order
  pub copiers : AreCopiers count (maximal order) ordered.heir ordered.copiers
