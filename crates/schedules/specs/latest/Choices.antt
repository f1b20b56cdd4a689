-- Trees of one shape, which differ in values that are chosen at their nodes, and where a node may stand with some values.
-- The values are those of a method's undetermined parameters; the method's check, or the method itself, asks for them.
-- Source: this project's.
use Rattle.std.specs.Prelude.{ℕ, ◌≡◌, ◌⊎◌}
use Rattle.plan_model.specs.task_networks.Net.{Net}
use Rattle.plan_model.specs.task_networks.Tree.{Tree, Address}
use Rattle.schedules.specs.latest.Execution.{IsSameShape}

-- Fits p v i: node p may stand in gap i with values v. They are chosen at `chooser p`
module _ (N : Net) (tree : Tree N) (Value : Type 0) (chosen : (Address → Value) → Tree N) (Fits : Address → Value → ℕ
    → Type 0) (chooser : Address → Address) where
  abbrev pub AllowedBySome : Address → ℕ → Type 0
  AllowedBySome p i = (v : Value) × Fits p v i

  abbrev pub AllowedBy : (Address → Value) → Address → ℕ → Type 0
  AllowedBy values p i = Fits p (values (chooser p)) i

  pub record IsChoice : Type 0 where
    pub shape : (values : Address → Value) → IsSameShape N tree (chosen values)
    -- one node asks for what is chosen at k, and the others ask for nothing
    pub asking : Address → Address
    pub only : (p : Address) → (p ≡ asking (chooser p)) ⊎ ((v : Value) (i : ℕ) → Fits p v i)
