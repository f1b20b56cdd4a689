-- That a run has one answer at most: two answers to the same words, where the files tell what they hold, end with one status, tell one line
-- and have the same output. A refusal holds references to words, so answers are compared by what is told.
-- Source: this project's.
use Rattle.std.specs.Prelude.{◌≡◌, List, Option, Some, None}
use Rattle.outside_io.specs.Folder.{Folder}
use Rattle.outside_io.specs.Files.{FilesState}
use Rattle.command_words.specs.Names.{Word}
use Rattle.htn_cli.specs.Answer.{Output, Answer, refuses, gives}
use Rattle.htn_cli.specs.Answers.{IsAnswerTo}
use Rattle.htn_cli.specs.Ending.{status_by, line_by}

-- the output of an answer: none, where it is a refusal
abbrev pub output_by : Answer → Option Output
output_by (refuses refusal) = None
output_by (gives output) = Some output

pub record TellTheSame (one other : Answer) : Type 0 where
  pub status : status_by one ≡ status_by other
  pub line : line_by one ≡ line_by other
  pub output : output_by one ≡ output_by other

-- the files tell what they hold
abbrev pub AreTold : FilesState → Type 0
AreTold files = (folder : Folder) × (files.held ≡ Some folder)

abbrev pub HasOneAnswer : List Word → FilesState → Type 0
HasOneAnswer words files = (one other : Answer) → IsAnswerTo words files one → IsAnswerTo words files other → TellTheSame one other

-- All words have one answer at most, over all files that tell what they hold.
abbrev pub EachHasOneAnswer : Type 0
EachHasOneAnswer = (words : List Word) (files : FilesState) → AreTold files → HasOneAnswer words files
