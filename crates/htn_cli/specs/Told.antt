-- What is told of the files: as which bytes a name reads, and which bytes it holds.
use Rattle.std.specs.Prelude.{ℕ, ◌≡◌, List, [], ◌∷◌, Some, IfSome, option_map}
use Rattle.outside_io.specs.Folder.{file_of, told_of}
use Rattle.outside_io.specs.Files.{FilesState}
use Rattle.command_words.specs.Names.{Word}

-- a name reads as these bytes, where that is told
abbrev pub Reads : FilesState → Word → List ℕ → Type 0
Reads files name bytes = IfSome files.held (λ folder. file_of files.lenient folder name ≡ Some bytes)

-- it is told that a name reads as these bytes
abbrev pub IsToldToRead : FilesState → Word → List ℕ → Type 0
IsToldToRead files name bytes = option_map (λ folder. file_of files.lenient folder name) files.held ≡ Some (Some bytes)

-- and that these names read so, one by one
abbrev pub AreToldToRead : FilesState → List Word → List (List ℕ) → Type 0
AreToldToRead files [] [] = Unit {0}
AreToldToRead files [] (text ∷ texts) = ⊥
AreToldToRead files (name ∷ names) [] = ⊥
AreToldToRead files (name ∷ names) (text ∷ texts) = IsToldToRead files name text × AreToldToRead files names texts

-- it is told that a name holds these bytes
abbrev pub IsToldToHold : FilesState → Word → List ℕ → Type 0
IsToldToHold files name bytes = told_of files.held name ≡ Some (Some bytes)
