-- The least fault of one list behind another.
use Rattle.std.proofs.Common.{ℕ, ◌≡◌, ◌+◌, ◌<◌, List, [], ◌∷◌, ◌++◌, Option, length, get_or, take, refl}
use Rattle.std.specs.Prelude.{flat_map}
use Rattle.std.proofs.lemmas.List.{take_more, flat_map_more}
use Rattle.name_binding.specs.declared.faults.Spot.{Spot}
use Rattle.name_binding.specs.Spots.{noted, sooner}

pub noted-append : (least : Option Spot) (xs ys : List Spot) → noted least (xs ++ ys) ≡ noted (noted least xs) ys
noted-append least [] ys = refl
noted-append least (x ∷ xs) ys = noted-append (sooner least x) xs ys

-- what is noted along a list, one item further
pub noted_more : {X : Type 0} (f : X → List Spot) (least : Option Spot) (xs : List X) (i : ℕ) (d : X) → i < length xs → noted least (flat_map f (take (i + 1) xs)) ≡ noted (noted least (flat_map f (take i xs))) (f (get_or xs i d))
noted_more f least xs i d l = rw (take_more xs i d l, ← flat_map_more f [] (take i xs) (get_or xs i d)) (noted-append least (flat_map f (take i xs)) (f (get_or xs i d)))
