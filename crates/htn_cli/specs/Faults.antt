-- A fault of the texts of a command, as a run names it: in which file, where, and by which word. Three faults are limits.
-- Source: this project's.
use Rattle.std.specs.Prelude.{ℕ, ◌≡◌, ◌≢◌, List, ◌++◌, Some, codes, decimal, slice_get}
use Rattle.text_values.specs.FaultWords.{fault_word}
use Rattle.command_words.specs.Names.{Word}
use Rattle.htn_cli.specs.declared.faults.Place.{Place}
use Rattle.htn_cli.specs.declared.faults.Counted.{Counted}
use Rattle.htn_cli.specs.declared.faults.Counted.TheVariants.{Depth, Subtasks, Types}

-- the fault that comes where there is too much of what is counted in a text
abbrev pub limit_code : Counted → ℕ
limit_code Depth = 4
limit_code Subtasks = 21
limit_code Types = 22

-- a fault that is no limit
abbrev pub IsNoLimit : ℕ → Type 0
IsNoLimit code = (counted : Counted) → code ≢ limit_code counted

abbrev pub place_text : Place → List ℕ
place_text place = place.name.now ++ codes ":" ++ decimal place.at

abbrev pub fault_text : Place → (code : ℕ) → List ℕ
fault_text place code = place_text place ++ codes ": fault " ++ decimal code ++ codes " " ++ fault_word code

-- of texts of files with these names, which have a least fault: it has this place and this code
pub record IsFaultAt (names : List Word) (IsLeast : (file code at : ℕ) → Type 0) (place : Place) (code : ℕ) : Type 0 where
  pub file : ℕ
  pub name_is : slice_get names file ≡ Some place.name.now
  pub least : IsLeast file code place.at
