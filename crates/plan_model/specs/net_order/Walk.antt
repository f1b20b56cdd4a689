-- Children that are listed once all their predecessors are, in whatever order.
use Rattle.std.specs.Prelude.{ℕ, ◌≡◌, IsTrue, Bool, true, List, length}
use Rattle.plan_model.specs.task_networks.Order.{Precedes}
use Rattle.plan_model.specs.net_order.Marks.{has, Marked, IsPreceded, IsWithin}

-- the predecessors of the listed ones are listed, and no listed one precedes itself
pub record IsSettled (before : List (List Bool)) (listed : List Bool) : Type 0 where
  pub room : length listed ≡ length before
  pub preceded : (i : ℕ) → IsTrue (has listed i) → IsPreceded before listed i
  pub acyclic : (i : ℕ) → IsTrue (has listed i) → Precedes (Marked before) i i → ⊥

-- the child is listed with all that were
pub record IsReached (before : List (List Bool)) (child : ℕ) (old new entered : List Bool) : Type 0 where
  pub settled : IsSettled before new
  pub reached : IsTrue (has new child)
  pub kept : IsWithin old new
  pub room : length entered ≡ length before
  pub within : IsWithin entered new

-- where a walk tells so
abbrev pub Reaches : List (List Bool) → ℕ → List Bool → List Bool → List Bool → Bool → Type 0
Reaches before child old new entered told = told ≡ true → IsReached before child old new entered
