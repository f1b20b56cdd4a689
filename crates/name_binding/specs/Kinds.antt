-- The number of a type as it is written, and its faults.
-- Source: PDDL 2.1 (Fox and Long, JAIR 20, 2003, level 1) for `either`; the numbers of unions are this project's.
use Rattle.std.specs.Prelude.{ℕ, ◌+◌, List, [], ◌∷◌, length, map, flat_map, option_map, unwrap_or, position, nat_eq}
use Rattle.std.specs.Cmp.Lexicographic.{pointwise}
use Rattle.name_binding.specs.Places.{first_place}
use Rattle.name_binding.specs.Terms.{unless_found}
use Rattle.name_binding.specs.declared.faults.Spot.{Spot}
use Rattle.gd_reader.specs.declared.term.RawTerm.{RawTerm}
use Rattle.name_binding.specs.Seen.{first_seen}

-- The types by the numbers of their names, object first, and the unions by the numbers of their types.
pub record Kinds : Type 0 where
  pub types : List ℕ
  pub unions : List (List ℕ)

module _ (kinds : Kinds) where
  -- where no type has the name nothing is used of what stands for it
  abbrev pub type_number : RawTerm → ℕ
  type_number t = unwrap_or (first_place t.name.number kinds.types) 0

  -- 11: no type has the name
  abbrev pub type_faults : RawTerm → List Spot
  type_faults t = unless_found 11 t.at (first_place t.name.number kinds.types)

  -- the numbers of the unions follow those of the types
  abbrev pub union_number : List ℕ → ℕ
  union_number members = unwrap_or (option_map (λ k. length kinds.types + k) (position (pointwise nat_eq members) kinds.unions)) 0

  -- object where no type is written, a type alone, or the union of two or more
  abbrev pub kind_by : List ℕ → ℕ
  kind_by [] = 0
  kind_by (n ∷ []) = n
  kind_by (n ∷ m ∷ ns) = union_number (n ∷ m ∷ ns)

  -- each type once, as it is first written
  abbrev pub members_written : List RawTerm → List ℕ
  members_written ts = first_seen [] (map type_number ts)

  abbrev pub kind_bound : List RawTerm → ℕ
  kind_bound ts = kind_by (members_written ts)

  abbrev pub kind_faults : List RawTerm → List Spot
  kind_faults ts = flat_map type_faults ts
