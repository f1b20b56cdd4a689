-- What is found in a gap, and since when nothing looked at has changed.
-- Source: this project's.
use Rattle.std.specs.Prelude.{ℕ, ◌≤◌, ◌↔◌, IsTrue, List, Option, MatchOption}
use Rattle.state_history.specs.declared.gaps.Look.{Look}
use Rattle.value_choices.specs.Choices.{IsFirst}
use Rattle.node_conditions.specs.declared.choosing.Found.{Found}
use Rattle.node_conditions.specs.declared.greatest.Stand.{Stand}

-- whether it holds in the gap, and a gap since which that has not changed
pub record IsLook (At : ℕ → Type 0) (gap : ℕ) (look : Look) : Type 0 where
  pub truth : IsTrue look.truth ↔ At gap
  pub since : look.since ≤ gap
  pub same : (j : ℕ) → look.since ≤ j → j ≤ gap → At j ↔ At gap

module _ (At : ℕ → List ℕ → Type 0) where
  -- it holds with no values, in none of these gaps
  pub record HoldsNever (since gap : ℕ) : Type 0 where
    pub since_is : since ≤ gap
    pub never : (j : ℕ) → since ≤ j → j ≤ gap → (values : List ℕ) → At j values → ⊥

  -- the first values with which it holds in the gap, or none since that gap
  abbrev pub IsFound : ℕ → Found → Type 0
  IsFound gap found = MatchOption found.values (HoldsNever found.since gap) (IsFirst (At gap))

  -- the greatest gap up to a bound in which it holds with some values, and the first such values
  pub record IsStand (most : ℕ) (stand : Stand) : Type 0 where
    pub within : stand.gap ≤ most
    pub first : IsFirst (At stand.gap) stand.values
    pub greatest : (i : ℕ) → i ≤ most → (values : List ℕ) → At i values → i ≤ stand.gap

  abbrev pub IsTheStand : ℕ → Option Stand → Type 0
  IsTheStand most found = MatchOption found ((i : ℕ) → i ≤ most → (values : List ℕ) → At i values → ⊥) (IsStand most)
