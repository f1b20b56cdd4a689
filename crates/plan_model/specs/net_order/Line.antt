-- Lines as far as they go, also where the pairs have a cycle.
use Rattle.std.specs.Prelude.{ℕ, ◌≡◌, ◌<◌, ◌⊎◌, ◌↔◌, Bool, List, ◌∷◌, ◌++◌, length}
use Rattle.plan_model.specs.task_networks.Order.{Precedes, IsReady, IsNext}
use Rattle.plan_model.specs.net_order.Marks.{Marked, IsSquare}

-- at each place the least child that is ready, until all are listed or none is ready
pub record IsGreedy (Pair : ℕ → ℕ → Type 0) (count : ℕ) (line : List ℕ) : Type 0 where
  pub each : (listed rest : List ℕ) (i : ℕ) → line ≡ listed ++ i ∷ rest → IsNext Pair count listed i
  pub ended : (length line ≡ count) ⊎ ((i : ℕ) → IsReady Pair count line i → ⊥)

-- the new sets have all that precedes each child by the old ones
pub record IsClosed (old new : List (List Bool)) : Type 0 where
  pub square : IsSquare (length old) new
  pub precedes : (i j : ℕ) → j < length old → Marked new i j ↔ Precedes (Marked old) i j
