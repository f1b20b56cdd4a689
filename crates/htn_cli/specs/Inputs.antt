-- The texts of inputs, as they are got one after another, each with all its bytes: a list that may be shorter than that of their names.
-- Source: this project's.
use Rattle.std.specs.Prelude.{ℕ, ◌≡◌, ◌<◌, ◌≤◌, List, [], ◌∷◌, Some, length, slice_get}
use Rattle.htn_base.specs.Limits.{longest_input}
use Rattle.outside_io.specs.Files.{FilesState, GetFails}
use Rattle.command_words.specs.Names.{Word}
use Rattle.htn_cli.specs.Told.{Reads}

-- none of these texts is too large
abbrev pub AreShort : List (List ℕ) → Type 0
AreShort [] = Unit {0}
AreShort (text ∷ texts) = (length text ≤ longest_input) × AreShort texts

-- these are the texts of all inputs with these names, and none is too large
abbrev pub AreWhole : List Word → List (List ℕ) → Type 0
AreWhole [] [] = Unit {0}
AreWhole (name ∷ names) (text ∷ texts) = (length text ≤ longest_input) × AreWhole names texts
AreWhole _ _ = ⊥

-- the last of these texts is the first that is too large, and its input has this name
abbrev pub EndTooLarge : List Word → List (List ℕ) → Word → Type 0
EndTooLarge (name ∷ names) (text ∷ []) word = (word ≡ name) × (longest_input < length text)
EndTooLarge (name ∷ names) (text ∷ texts) word = (length text ≤ longest_input) × EndTooLarge names texts word
EndTooLarge _ _ word = ⊥

module _ (files : FilesState) where
  -- the first of these names read as these texts
  abbrev pub AreGot : List Word → List (List ℕ) → Type 0
  AreGot names [] = Unit {0}
  AreGot [] (text ∷ texts) = ⊥
  AreGot (name ∷ names) (text ∷ texts) = Reads files name text × AreGot names texts

  -- a get of one of these names failed, where those before it read as texts that are not too large
  pub record FailsToRead (names : List Word) (new : FilesState) (name : Word) : Type 0 where
    pub texts : List (List ℕ)
    pub got : AreGot names texts
    pub short : AreShort texts
    pub next : slice_get names (length texts) ≡ Some name
    pub fails : GetFails files new name
