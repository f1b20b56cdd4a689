-- The pairs of a type and its parent, by the numbers of types.
-- Source: this project's; several parents of a type are this project's.
use Rattle.std.specs.Prelude.{ℕ, zero, suc, ◌≡◌, ◌<◌, ◌==◌, Some, slice_get, cond, List, [], ◌∷◌, ◌++◌, map, flat_map, length, unwrap_or}
use Rattle.name_binding.specs.Places.{first_place}
use Rattle.gd_reader.specs.declared.term.RawTerm.{RawTerm}
use Rattle.gd_reader.specs.declared.typed_lists.RawParam.{RawParam}
use Rattle.plan_model.specs.declared.types.Parent.{Parent}
use Rattle.name_binding.specs.Seen.{first_seen}

abbrev pub parent : ℕ → ℕ → Parent
parent child of = record { child = child; parent = of }

-- the pairs of one type: each written parent, or object where none is written
abbrev pub pairs_with : ℕ → List ℕ → List Parent
pairs_with child [] = parent child 0 ∷ []
pairs_with child (p ∷ ps) = map (parent child) (p ∷ ps)

-- object has none
abbrev pub pairs_for : ℕ → List ℕ → List Parent
pairs_for child ps = cond (child == 0) [] (pairs_with child ps)

module _ (types : List ℕ) where
  abbrev pub place_of : RawTerm → ℕ
  place_of t = unwrap_or (first_place t.name.number types) 0

  -- the parents that stand behind a word of the section, if the word is this type
  abbrev pub parents_behind : ℕ → RawParam → List ℕ
  parents_behind child x = cond (child == unwrap_or (first_place x.name.number types) 0) (map place_of x.ty) []

  -- all that are written for a type, each once
  abbrev pub parents_written : List RawParam → ℕ → List ℕ
  parents_written xs child = first_seen [] (flat_map (parents_behind child) xs)

  -- the pairs of the first n types, by the child's number and then in text order
  abbrev pub pairs_below : List RawParam → ℕ → List Parent
  pairs_below xs zero = []
  pairs_below xs (suc n) = pairs_below xs n ++ pairs_for n (parents_written xs n)

  abbrev pub pairs_in_order : List RawParam → List Parent
  pairs_in_order xs = pairs_below xs (length types)

  -- the sets that have what is written for each type but object
  pub record AreParentsOf (xs : List RawParam) (sets : List (List ℕ)) : Type 0 where
    pub count : length sets ≡ length types
    pub each : (child : ℕ) → 0 < child → (set : List ℕ) → slice_get sets child ≡ Some set → set ≡ parents_written xs child
