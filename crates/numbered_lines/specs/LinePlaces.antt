-- What is kept of the places of lines, to find them by their ids.
-- Source: this project's.
use Rattle.std.specs.Prelude.{ℕ, ◌≡◌, ◌⊎◌, List, Some, IsSome}
use Rattle.std.specs.Ordering.{nat_cmp}
use Rattle.std.specs.BTreeMap.{get}
use Rattle.numbered_lines.specs.Numbered.{IsAtPlace}
use Rattle.numbered_lines.specs.declared.line_places.LinePlaces.{LinePlaces}

-- the places of lines with these ids: each is the id itself, or it is kept beside
pub record ArePlacesOf (ids : List ℕ) (places : LinePlaces) : Type 0 where
  pub are : places.ids ≡ ids
  pub kept : (id place : ℕ) → get nat_cmp places.others id ≡ Some place → IsAtPlace ids place id
  pub all : (id place : ℕ) → IsAtPlace ids place id → (place ≡ id) ⊎ IsSome (get nat_cmp places.others id)
