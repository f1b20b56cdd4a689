-- Worked rows. The numbers of the names are 5 for object, 7 for place, 8 for depot, 9 for city.
use Rattle.std.proofs.Common.{◌≡◌, ℕ, List, [], ◌∷◌, false, refl}
use Rattle.name_binding.specs.Spots.{spot}
use Rattle.gd_reader.specs.declared.term.RawTerm.{RawTerm}
use Rattle.gd_reader.specs.declared.typed_lists.RawParam.{RawParam}
use Rattle.name_binding.specs.Kinds.{Kinds, kind_bound, kind_faults}
use Rattle.name_binding.specs.Mentions.{types_in_order}
use Rattle.name_binding.specs.Parents.{parent, pairs_in_order}

abbrev word : ℕ → ℕ → RawTerm
word number at = record { name = record { number = number }; variable = false; at = at }

abbrev typed : ℕ → ℕ → List RawTerm → RawParam
typed number at types = record { name = record { number = number }; ty = types; at = at }

-- object, place, depot, city, and ( either depot city )
abbrev kinds : Kinds
kinds = record { types = 5 ∷ 7 ∷ 8 ∷ 9 ∷ []; unions = (2 ∷ 3 ∷ []) ∷ [] }

no_type : kind_bound kinds [] ≡ 0
no_type = refl

one_type : kind_bound kinds (word 8 40 ∷ []) ≡ 2
one_type = refl

-- the first union follows the four types
union : kind_bound kinds (word 8 40 ∷ word 9 46 ∷ []) ≡ 4
union = refl

-- a repeat counts once
repeated : kind_bound kinds (word 8 40 ∷ word 8 46 ∷ []) ≡ 2
repeated = refl

repeated_in_union : kind_bound kinds (word 8 40 ∷ word 9 46 ∷ word 8 51 ∷ []) ≡ 4
repeated_in_union = refl

-- a name that no type has, of number 3, at offset 46
unknown : kind_faults kinds (word 8 40 ∷ word 3 46 ∷ []) ≡ spot 46 11 ∷ []
unknown = refl

-- depot city - place: depot and city stand in front of place
in_text_order : types_in_order 5 (word 8 10 ∷ word 9 16 ∷ word 7 23 ∷ []) ≡ 5 ∷ 8 ∷ 9 ∷ 7 ∷ []
in_text_order = refl

-- depot city - place, and no parent for place
pairs : pairs_in_order (5 ∷ 8 ∷ 9 ∷ 7 ∷ []) (typed 8 10 (word 7 23 ∷ []) ∷ typed 9 16 (word 7 23 ∷ []) ∷ []) ≡ parent 1 3 ∷ parent 2 3 ∷ parent 3 0 ∷ []
pairs = refl

-- depot - city depot - place depot - city: the parents of depot in text order, each once
several_parents : pairs_in_order (5 ∷ 8 ∷ 9 ∷ 7 ∷ []) (typed 8 10 (word 9 18 ∷ []) ∷ typed 8 23 (word 7 31 ∷ []) ∷ typed 8 37 (word 9 45 ∷ []) ∷ [])
    ≡ parent 1 2 ∷ parent 1 3 ∷ parent 2 0 ∷ parent 3 0 ∷ []
several_parents = refl
