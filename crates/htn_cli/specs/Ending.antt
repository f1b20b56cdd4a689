-- How a run ends.
-- Source: this project's.
use Rattle.std.specs.Prelude.{ℕ, ◌≡◌, ◌<◌, ◌⊎◌, List, [], Some}
use Rattle.outside_io.specs.Files.{FilesState}
use Rattle.outside_io.specs.Sink.{SinkState}
use Rattle.command_words.specs.Names.{Word}
use Rattle.command_words.specs.Words.{Request, Asks, AreOfAForm}
use Rattle.htn_cli.specs.Answer.{Output, Answer, refuses, gives}
use Rattle.htn_cli.specs.Answers.{IsAnswer, IsAnswerTo}
use Rattle.htn_cli.specs.Requests.{outputs_of, slots_given, most_slots_of}
use Rattle.htn_cli.specs.Refusal.{status_of, line_of}
use Rattle.htn_cli.specs.Sent.{TakesWhole, Told}
use Rattle.htn_cli.specs.Left.{StandsUpTo, Leave, Leaves}
use Rattle.htn_cli.specs.declared.status.Status.{Status}
use Rattle.htn_cli.specs.declared.status.Status.TheVariants as status
use Rattle.htn_cli.specs.declared.refusal.Refusal.{Refusal}
use Rattle.htn_cli.specs.declared.refusal.Refusal.TheVariants as refused

-- the status of an answer, and the line that standard error is told
abbrev pub status_by : Answer → Status
status_by (refuses refusal) = status_of refusal
status_by (gives output) = status.Done

abbrev pub line_by : Answer → List ℕ
line_by (refuses refusal) = line_of refusal
line_by (gives output) = []

-- the statuses with which an answer may end: with the others memory was refused, or something outside failed
abbrev pub IsOfAnAnswer : Status → Type 0
IsOfAnAnswer status.ReadFault = ⊥
IsOfAnAnswer status.WriteFault = ⊥
IsOfAnAnswer status.NoMemory = ⊥
IsOfAnAnswer _ = Unit {0}

module _ (files files' : FilesState) (out out' : SinkState) where
  -- what was asked for was done
  pub record Achieves (request : Request) : Type 0 where
    pub output : Output
    pub is : IsAnswer request files (gives output)
    pub stands : StandsUpTo TakesWhole output files files' out out'

  -- nothing changed but standard error, which was told the line of this refusal
  pub record IsRefusedFor (refusal : Refusal) (ended : Status) (err err' : SinkState) : Type 0 where
    pub status_is : ended ≡ status_of refusal
    pub told : Told (line_of refusal) err err'
    pub files_stay : files' ≡ files
    pub out_stays : out' ≡ out

module _ (words : List Word) (files files' : FilesState) (out out' : SinkState) where
  -- the words ask for something, and it was done
  pub record IsDone : Type 0 where
    pub request : Request
    pub asked : Asks words request
    pub achieved : Achieves files files' out out' request

  -- the words are of no form, and nothing changed
  pub record RefusesWords (refusal : Refusal) : Type 0 where
    pub formless : AreOfAForm words → ⊥
    pub refusal_is : refusal ≡ refused.Words
    pub files_stay : files' ≡ files
    pub out_stays : out' ≡ out

  -- the words ask for something, and it was refused
  pub record RefusesRequest (refusal : Refusal) : Type 0 where
    pub request : Request
    pub asked : Asks words request
    pub left : Leaves request files files' out out' refusal

  abbrev pub IsRefused : Refusal → Type 0
  IsRefused refusal = RefusesWords refusal ⊎ RefusesRequest refusal

  -- a run that ended with a refusal: its status, what it left, and the line that it told
  pub record Ends (ended : Status) (err err' : SinkState) : Type 0 where
    pub refusal : Refusal
    pub status_is : ended ≡ status_of refusal
    pub left : IsRefused refusal
    pub told : Told (line_of refusal) err err'

  -- a run that ended with the answer to its words
  pub record IsAnswered (ended : Status) (err err' : SinkState) : Type 0 where
    pub answer : Answer
    pub is : IsAnswerTo words files answer
    pub status_is : ended ≡ status_by answer
    pub left : Leave answer files files' out out'
    pub told : Told (line_by answer) err err'

-- the words ask for so many slots
abbrev pub AskForSlots : List Word → ℕ → Type 0
AskForSlots words n = (request : Request) × Asks words request × (slots_given request ≡ Some n)

-- and for more than are printed
abbrev pub AskForTooMany : List Word → ℕ → Type 0
AskForTooMany words n = (request : Request) × Asks words request × (slots_given request ≡ Some n) × (most_slots_of request < n)

-- the words ask for what writes no file
abbrev pub AskForNoFile : List Word → Type 0
AskForNoFile words = (request : Request) × Asks words request × (outputs_of request ≡ [])

-- the statuses of a run that was refused before its first put
abbrev pub IsBeforePuts : Status → Type 0
IsBeforePuts status.TextFault = Unit {0}
IsBeforePuts status.Words = Unit {0}
IsBeforePuts status.ReadFault = Unit {0}
IsBeforePuts status.Finding = Unit {0}
IsBeforePuts status.Limit = Unit {0}
IsBeforePuts _ = ⊥

-- what the files hold and standard output are as they were
pub record IsUntouched (files files' : FilesState) (out out' : SinkState) : Type 0 where
  pub held : files'.held ≡ files.held
  pub written : out' ≡ out
