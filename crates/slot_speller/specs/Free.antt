-- Which slots are free, as it is kept.
-- Source: this project's.
use Rattle.std.specs.Prelude.{ℕ, ◌≡◌, ◌<◌, ◌≤◌, ◌↔◌, ◌⊎◌, max, true}
use Rattle.std.specs.Ordering.{nat_cmp}
use Rattle.std.specs.BTreeSet.{contains}
use Rattle.slot_speller.specs.declared.free.Free.{Free}

-- the slot was given back
abbrev pub IsGiven : Free → ℕ → Type 0
IsGiven f x = contains nat_cmp f.given x ≡ true

-- the slot is free: it was given back, or is above all that were taken
abbrev pub IsFree : Free → ℕ → Type 0
IsFree f x = IsGiven f x ⊎ (f.greatest < x)

-- what was given back had been taken
abbrev pub IsSound : Free → Type 0
IsSound f = (x : ℕ) → IsGiven f x → (1 ≤ x) × (x ≤ f.greatest)

-- the lowest free slot is taken
pub record Takes (old : Free) (slot : ℕ) (new : Free) : Type 0 where
  pub positive : 1 ≤ slot
  pub free : IsFree old slot
  pub lowest : (x : ℕ) → IsFree old x → slot ≤ x
  pub left : (x : ℕ) → IsFree new x ↔ (IsFree old x × (slot ≡ x → ⊥))
  pub sound : IsSound new
  pub greatest : new.greatest ≡ max old.greatest slot

-- a slot is given back
pub record Gives (old : Free) (slot : ℕ) (new : Free) : Type 0 where
  pub free : (x : ℕ) → IsFree new x ↔ (IsFree old x ⊎ (slot ≡ x))
  pub greatest : new.greatest ≡ old.greatest
  pub sound : IsSound old → 1 ≤ slot → slot ≤ old.greatest → IsSound new
