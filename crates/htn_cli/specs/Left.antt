-- What a run leaves of its files and of standard output.
-- Source: this project's.
use Rattle.std.specs.Prelude.{◌≡◌, ◌≢◌, ◌⊎◌, ℕ, List, [], ◌∷◌, ◌++◌, Some, IfSome, option_map}
use Rattle.outside_io.specs.Count.{Rises}
use Rattle.outside_io.specs.Folder.{told_of}
use Rattle.outside_io.specs.Files.{FilesState}
use Rattle.outside_io.specs.Sink.{SinkState}
use Rattle.command_words.specs.Names.{Word}
use Rattle.command_words.specs.Words.{Request}
use Rattle.htn_cli.specs.Answer.{Text, Output, Answer, refuses, gives, names_of}
use Rattle.htn_cli.specs.Answers.{IsAnswer}
use Rattle.htn_cli.specs.Inputs.{FailsToRead}
use Rattle.htn_cli.specs.Requests.{inputs_of, IsWithin}
use Rattle.htn_cli.specs.Sent.{TakesWhole, TakesThenFails, TakesThenStarves}
use Rattle.htn_cli.specs.declared.refusal.Failure.{Failure}
use Rattle.htn_cli.specs.declared.refusal.Failure.TheVariants as failure
use Rattle.htn_cli.specs.declared.refusal.Refusal.{Refusal}
use Rattle.htn_cli.specs.declared.refusal.Refusal.TheVariants as refused

-- a name holds this text, where that is told
abbrev pub HoldsText : FilesState → FilesState → Word → List ℕ → Type 0
HoldsText old new name text = told_of new.held name ≡ option_map (λ folder. Some text) old.held

-- each of these texts is held by its name
abbrev pub HoldTexts : FilesState → FilesState → List Text → Type 0
HoldTexts old new [] = Unit {0}
HoldTexts old new (text ∷ texts) = HoldsText old new text.name text.bytes × HoldTexts old new texts

-- a name is none of these
abbrev pub IsNoneOf : List Word → Word → Type 0
IsNoneOf [] other = Unit {0}
IsNoneOf (name ∷ names) other = (other ≢ name) × IsNoneOf names other

-- each name but these holds what it held
abbrev pub KeepsAllBut : FilesState → FilesState → List Word → Type 0
KeepsAllBut old new names = (other : Word) → IsNoneOf names other → told_of new.held other ≡ told_of old.held other

-- no get and no put failed
pub record NoFault (old new : FilesState) : Type 0 where
  pub get_faults : new.get_faults ≡ old.get_faults
  pub put_faults : new.put_faults ≡ old.put_faults

-- these texts stand whole, and no other name changed; where there are none, nothing did
pub record Stand (texts : List Text) (old new : FilesState) : Type 0 where
  pub held : HoldTexts old new texts
  pub others : KeepsAllBut old new (names_of texts)
  pub faults : NoFault old new
  pub nothing : texts ≡ [] → new ≡ old

-- the put of a text of this name failed: those before it stand whole, and no name but theirs and this one changed
pub record FailsToPut (texts : List Text) (name : Word) (old new : FilesState) : Type 0 where
  pub done : List Text
  pub text : Text
  pub left : List Text
  pub parts : texts ≡ done ++ text ∷ left
  pub name_is : text.name ≡ name
  pub held : HoldTexts old new done
  pub others : KeepsAllBut old new (name ∷ names_of done)
  pub get_faults : new.get_faults ≡ old.get_faults
  pub put_faults : Rises old.put_faults new.put_faults
  pub failed : IfSome new.failed (λ told. told ≡ name)
  pub lenient : new.lenient ≡ old.lenient

-- the texts before one of these stand, and that one was not put
pub record StandInPart (texts : List Text) (old new : FilesState) : Type 0 where
  pub done : List Text
  pub text : Text
  pub left : List Text
  pub parts : texts ≡ done ++ text ∷ left
  pub stand : Stand done old new

-- all texts of an output stand, and what standard output takes of its line
abbrev pub StandsUpTo : (List ℕ → SinkState → SinkState → Type 0) → Output → FilesState → FilesState → SinkState → SinkState → Type 0
StandsUpTo Takes output old new out out' = Stand output.texts old new × Takes output.told out out'

-- what a run leaves that ends with its answer
abbrev pub Leave : Answer → FilesState → FilesState → SinkState → SinkState → Type 0
Leave (refuses refusal) old new out out' = (new ≡ old) × (out' ≡ out)
Leave (gives output) old new out out' = StandsUpTo TakesWhole output old new out out'

module _ (request : Request) (old new : FilesState) (out out' : SinkState) where
  -- memory was refused before anything was written, before a later output, or when standard output was told
  abbrev pub LeavesStarved : Type 0
  LeavesStarved =
      ((new ≡ old) × (out' ≡ out))
      ⊎ ((output : Output) × IsAnswer request old (gives output) × StandInPart output.texts old new × (out' ≡ out))
      ⊎ ((output : Output) × IsAnswer request old (gives output) × StandsUpTo TakesThenStarves output old new out out')

  -- where something failed: what stands of the output
  abbrev pub LeavesFailed : Failure → Type 0
  LeavesFailed (failure.Reading name) = IsWithin request × FailsToRead old (inputs_of request) new name.now × (out' ≡ out)
  LeavesFailed (failure.Writing name) =
      (output : Output) × IsAnswer request old (gives output) × FailsToPut output.texts name.now old new × (out' ≡ out)
  LeavesFailed failure.Telling = (output : Output) × IsAnswer request old (gives output) × StandsUpTo TakesThenFails output old new out out'
  LeavesFailed failure.Memory = IsWithin request × LeavesStarved

  -- what a run leaves that ends with a refusal
  abbrev pub Leaves : Refusal → Type 0
  Leaves (refused.Failure f) = LeavesFailed f
  Leaves refusal = IsAnswer request old (refuses refusal) × (new ≡ old) × (out' ≡ out)
