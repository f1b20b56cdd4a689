-- What a pass over a tree gives: the latest gap of each node, and the first values with which it stands there.
-- Source: this project's.
use Rattle.std.specs.Prelude.{ℕ, ◌≡◌, ◌<◌, ◌↔◌, List, [], length, slice_get, slice_index_or, Option, Some, None, MatchOption}
use Rattle.plan_model.specs.declared.values.Compiled.{Compiled}
use Rattle.problem_index.specs.declared.world.World.{World}
use Rattle.problem_index.specs.Kinds.{IsWorld}
use Rattle.tree_core.specs.Tables.{Row}
use Rattle.tree_core.specs.Labels.{labels}
use Rattle.state_history.specs.declared.history.History.{History}
use Rattle.state_history.specs.Histories.{state_in}
use Rattle.value_choices.specs.Choices.{IsFirst}
use Rattle.gap_pass.specs.LatestGaps.{AreLatest, HasNone}
use Rattle.node_conditions.specs.declared.greatest.Stand.{Stand}
use Rattle.node_conditions.specs.declared.stands.Stands.{Stands}
use Rattle.node_conditions.specs.Standing.{RowMayStand}

-- stands k values i: node k may stand in gap i, where the method that it asks for has these values
module _ (stands : ℕ → List ℕ → ℕ → Type 0) where
  abbrev pub Somehow : ℕ → ℕ → Type 0
  Somehow k i = (values : List ℕ) × stands k values i

  -- the first values with which the node stands in the gap, where it may
  abbrev pub AreFirstAt : ℕ → ℕ → List ℕ → Type 0
  AreFirstAt k gap values = Somehow k gap → IsFirst (λ v. stands k v gap) values

  -- of each of so many nodes in its gap
  abbrev pub AreFirst : ℕ → List ℕ → List (List ℕ) → Type 0
  AreFirst size gaps values = (k gap : ℕ) → k < size → slice_get gaps k ≡ Some gap → AreFirstAt k gap (slice_index_or values k [])

  -- what is kept of nodes are the first values in their gaps
  abbrev pub AreKept : List (Option Stand) → Type 0
  AreKept found = (k : ℕ) (stand : Stand) → slice_index_or found k None ≡ Some stand → AreFirstAt k stand.gap stand.values

  pub record AreStands (c : Compiled) (rows : List (Row labels)) (actions : List ℕ) (found : Stands) : Type 0 where
    pub latest : AreLatest c rows actions Somehow found.gaps
    pub first : AreFirst (length rows) found.gaps found.values

  -- they are found, or there is no gap function
  abbrev pub AreTheStands : Compiled → List (Row labels) → List ℕ → Option Stands → Type 0
  AreTheStands c rows actions found = MatchOption found (HasNone c rows actions Somehow) (AreStands c rows actions)

  -- that is what the rows say, of the states of the history
  pub record Tells (c : Compiled) (world : World) (rows : List (Row labels)) (history : History) : Type 0 where
    pub world_is : IsWorld world
    pub types : world.types.now ≡ c.hddl.types
    pub objects : world.objects.now ≡ c.hddl.objects
    pub tells : (k : ℕ) (values : List ℕ) (i : ℕ) → stands k values i ↔ RowMayStand c rows (state_in history) k values i
