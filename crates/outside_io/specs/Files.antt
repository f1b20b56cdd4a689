use Rattle.std.specs.Prelude.{◌≡◌, ℕ, Bool, List, Option, Some, IfSome, option_map, take}
use Rattle.outside_io.specs.Count.{Rises, HasRisen}
use Rattle.outside_io.specs.Folder.{Folder, file_of, with_bytes, told_of, KeepsOthers}
use Rattle.outside_io.specs.declared.files.GetError.{GetError}
use Rattle.outside_io.specs.declared.files.GetError.TheVariants as get
use Rattle.outside_io.specs.declared.files.PutError.{PutError}
use Rattle.outside_io.specs.declared.files.PutError.TheVariants as put

-- what is known of files from outside
pub record FilesState : Type 0 where
  pub held : Option Folder  -- the names and their bytes, where they are told
  pub get_faults : ℕ  -- how many gets have failed
  pub put_faults : ℕ  -- how many puts have failed
  pub failed : Option (List ℕ)  -- the name in the last call that failed, where it is told
  pub lenient : Bool  -- whether a name that is not held reads as an empty file

-- a get has failed, or a put
abbrev pub GetHasFailed : FilesState → FilesState → Type 0
GetHasFailed old new = HasRisen old.get_faults new.get_faults

abbrev pub PutHasFailed : FilesState → FilesState → Type 0
PutHasFailed old new = HasRisen old.put_faults new.put_faults

-- a get that gives the first bytes of a file
pub record GetGives (old new : FilesState) (name : List ℕ) (limit : ℕ) (bytes : List ℕ) : Type 0 where
  pub unchanged : new ≡ old
  pub first : IfSome old.held (λ folder. option_map (take limit) (file_of old.lenient folder name) ≡ Some bytes)

-- a get that fails
pub record GetFails (old new : FilesState) (name : List ℕ) : Type 0 where
  pub held : new.held ≡ old.held
  pub get_faults : Rises old.get_faults new.get_faults
  pub put_faults : new.put_faults ≡ old.put_faults
  pub failed : IfSome new.failed (λ told. told ≡ name)
  pub lenient : new.lenient ≡ old.lenient

abbrev pub GetRefused : FilesState → FilesState → List ℕ → GetError → Type 0
GetRefused old new name get.Failed = GetFails old new name
GetRefused old new name get.Memory = new ≡ old

-- a put after which the name holds these bytes
pub record PutGives (old new : FilesState) (name bytes : List ℕ) : Type 0 where
  pub held : new.held ≡ option_map (λ folder. with_bytes folder name bytes) old.held
  pub given : told_of new.held name ≡ option_map (λ _. Some bytes) old.held
  pub others : KeepsOthers old.held new.held name
  pub get_faults : new.get_faults ≡ old.get_faults
  pub put_faults : new.put_faults ≡ old.put_faults
  pub failed : new.failed ≡ old.failed
  pub lenient : new.lenient ≡ old.lenient

-- a put that fails: nothing is told of what this name then holds
pub record PutFails (old new : FilesState) (name : List ℕ) : Type 0 where
  pub others : KeepsOthers old.held new.held name
  pub get_faults : new.get_faults ≡ old.get_faults
  pub put_faults : Rises old.put_faults new.put_faults
  pub failed : IfSome new.failed (λ told. told ≡ name)
  pub lenient : new.lenient ≡ old.lenient

abbrev pub PutRefused : FilesState → FilesState → List ℕ → PutError → Type 0
PutRefused old new name put.Failed = PutFails old new name
PutRefused old new name put.Memory = new ≡ old
