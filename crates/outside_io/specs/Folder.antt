use Rattle.std.specs.Prelude.{◌≡◌, ◌≢◌, ℕ, Bool, true, false, List, [], ◌∷◌, ◌++◌, Option, Some, find, position, slice_set, option_map, unwrap_or}
use Rattle.std.specs.Option.{option_map_or}
use Rattle.std.specs.Str.{bytes_eq}

-- names with their bytes, each name where it was first put
abbrev pub Folder : Type 0
Folder = List (List ℕ × List ℕ)

abbrev pub has_name : List ℕ → List ℕ × List ℕ → Bool
has_name name file = bytes_eq file.0 name

-- what a name holds; None where the name is not held
abbrev pub bytes_of : Folder → List ℕ → Option (List ℕ)
bytes_of folder name = option_map (λ file. file.1) (find (has_name name) folder)

-- what a name reads as: a lenient folder reads a name that is not held as an empty file
abbrev pub file_of : Bool → Folder → List ℕ → Option (List ℕ)
file_of true folder name = Some (unwrap_or (bytes_of folder name) [])
file_of false folder name = bytes_of folder name

-- the folder in which a name holds these bytes; a new name goes last
abbrev pub with_bytes : Folder → List ℕ → List ℕ → Folder
with_bytes folder name bytes =
    option_map_or (λ place. slice_set folder place (name, bytes)) (position (has_name name) folder) (folder ++ (name, bytes) ∷ [])

-- what is told of a name: nothing, or what it holds
abbrev pub told_of : Option Folder → List ℕ → Option (Option (List ℕ))
told_of held name = option_map (λ folder. bytes_of folder name) held

-- what is told of each other name stays
abbrev pub KeepsOthers : Option Folder → Option Folder → List ℕ → Type 0
KeepsOthers old new name = (other : List ℕ) → other ≢ name → told_of new other ≡ told_of old other
