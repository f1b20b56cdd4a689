-- The pairs of types and parents among the first types, by the places of the types, in text order.
-- Source: this project's.
use Rattle.std.specs.Prelude.{ℕ, zero, suc, ◌≡◌, nat_lt, cond, List, [], ◌∷◌, map, flat_map, slice_get, Option, Some, None}
use Rattle.plan_model.specs.task_networks.Order.{IsAcyclic, IsFirstClosing}
use Rattle.plan_model.specs.declared.networks.Pair.{Pair}
use Rattle.plan_model.specs.Pairs.{pair, Pairs}
use Rattle.name_binding.specs.Places.{first_place}
use Rattle.name_binding.specs.Spots.{spot}
use Rattle.name_binding.specs.declared.faults.Spot.{Spot}
use Rattle.gd_reader.specs.declared.term.RawTerm.{RawTerm}
use Rattle.gd_reader.specs.declared.typed_lists.RawParam.{RawParam}

abbrev pub if_at : ℕ → Option ℕ → List Spot
if_at code None = []
if_at code (Some at) = spot at code ∷ []

abbrev pub if_below : ℕ → Option ℕ → Option ℕ
if_below count None = None
if_below count (Some k) = cond (nat_lt k count) (Some k) None

abbrev pub if_parent : ℕ → Option ℕ → List Pair
if_parent child None = []
if_parent child (Some parent) = pair child parent ∷ []

module _ (types : List ℕ) (count : ℕ) where
  -- the place of a type among the first so many
  abbrev pub place_among : ℕ → Option ℕ
  place_among n = if_below count (first_place n types)

  -- whatever the parent of object, its pair is that of object with itself, so that it closes a cycle
  abbrev pub parent_among : (child parent : ℕ) → Option ℕ
  parent_among zero n = Some 0
  parent_among (suc child) n = place_among n

  abbrev pub pair_among : ℕ → RawTerm → List Pair
  pair_among child t = if_parent child (parent_among child t.name.number)

  abbrev pub pairs_of_child : Option ℕ → List RawTerm → List Pair
  pairs_of_child None ts = []
  pairs_of_child (Some child) ts = flat_map (pair_among child) ts

  -- the pairs of one word of the section
  abbrev pub pairs_behind : RawParam → List Pair
  pairs_behind x = pairs_of_child (place_among x.name.number) x.ty

  abbrev pub places_behind : RawParam → List ℕ
  places_behind x = map (λ _. x.at) (pairs_behind x)

  abbrev pub pairs_among : List RawParam → List Pair
  pairs_among xs = flat_map pairs_behind xs

  -- of each the offset of the child's word
  abbrev pub places_among : List RawParam → List ℕ
  places_among xs = flat_map places_behind xs

  -- the offset of the first of these pairs that closes a cycle with those in front of it, or none where there is no cycle
  abbrev pub IsCycleAmong : List RawParam → Option ℕ → Type 0
  IsCycleAmong xs None = IsAcyclic (Pairs (pairs_among xs))
  IsCycleAmong xs (Some at) = (k : ℕ) × IsFirstClosing pair (pairs_among xs) k × (slice_get (places_among xs) k ≡ Some at)
