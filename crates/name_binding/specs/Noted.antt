-- The number of written types, where their faults were noted.
-- Source: this project's.
use Rattle.std.specs.Prelude.{ℕ, ◌≡◌, List, Option}
use Rattle.name_binding.specs.Spots.{noted}
use Rattle.name_binding.specs.declared.faults.Spot.{Spot}
use Rattle.gd_reader.specs.declared.term.RawTerm.{RawTerm}
use Rattle.name_binding.specs.Kinds.{Kinds, kind_bound, kind_faults}

-- noting their faults once more changes nothing
pub record IsKindNoted (kinds : Kinds) (types : List RawTerm) (kind : ℕ) (least : Option Spot) : Type 0 where
  pub kind_is : kind ≡ kind_bound kinds types
  pub noted_are : noted least (kind_faults kinds types) ≡ least
