-- Whether all methods are totally ordered, and which is the first that is not.
-- Source: this project's.
use Rattle.std.specs.Prelude.{ℕ, ◌≡◌, ◌⊎◌, ◌↔◌}
use Rattle.plan_model.specs.declared.values.Compiled.{Compiled}
use Rattle.plan_proof.specs.OneGraph.{plan_words}
use Rattle.stack_encoding.specs.TotalOrder.{IsTotallyOrdered, IsFirstUnordered}

-- exactly one method is the first that is not totally ordered
abbrev pub HasOneFirstUnordered : Compiled → Type 0
HasOneFirstUnordered c = (m : ℕ) × IsFirstUnordered c m × ((k : ℕ) → IsFirstUnordered c k → k ≡ m)

-- all are, or one is the first that is not
abbrev pub IsOrderedOrHasOneFirst : Compiled → Type 0
IsOrderedOrHasOneFirst c = IsTotallyOrdered c ⊎ HasOneFirstUnordered c

-- of two compiled problems the same methods are, with the same source words
pub record AreOrderedAlike (c d : Compiled) : Type 0 where
  pub ordered : IsTotallyOrdered c ↔ IsTotallyOrdered d
  pub first : (m : ℕ) → IsFirstUnordered c m ↔ IsFirstUnordered d m
  pub words : plan_words c ≡ plan_words d
