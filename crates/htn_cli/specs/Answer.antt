-- What a run answers: a refusal, or an output.
use Rattle.std.specs.Prelude.{ℕ, List, [], map}
use Rattle.command_words.specs.Names.{Word}
use Rattle.htn_cli.specs.declared.refusal.Refusal.{Refusal}

-- the name of a file, and the text that it gets
pub record Text : Type 0 where
  pub name : Word
  pub bytes : List ℕ

-- texts for files, in the order in which they are put, and what is told on standard output after them
pub record Output : Type 0 where
  pub texts : List Text
  pub told : List ℕ

abbrev pub names_of : List Text → List Word
names_of texts = map (λ (text : Text). text.name) texts

-- an output of a command that writes no file
abbrev pub told_alone : List ℕ → Output
told_alone line = record { texts = []; told = line }

pub data Answer : Type 0 where
  -- a refusal, with its status and its line
  refuses : Refusal → Answer
  gives : Output → Answer
