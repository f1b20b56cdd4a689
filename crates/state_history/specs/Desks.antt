-- What a look notes while it goes on.
-- Source: this project's.
use Rattle.std.specs.Prelude.{ℕ, ◌≡◌, ◌≤◌, List}
use Rattle.state_history.specs.declared.desk.Desk.{Desk}

-- the same objects are in force, and the gap since which all is the same is no earlier, nor past the gap that is looked at
pub record IsLater (gap : ℕ) (old new : Desk) : Type 0 where
  pub values : new.values.items ≡ old.values.items
  pub later : old.since ≤ new.since
  pub within : old.since ≤ gap → new.since ≤ gap

-- the objects in force are these, and the gap since which all is the same is as it was
pub record HasValues (objects : List ℕ) (old new : Desk) : Type 0 where
  pub values : new.values.items ≡ objects
  pub since : new.since ≡ old.since
