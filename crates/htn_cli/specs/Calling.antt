-- The calls of one step of a run, and those of one that is refused.
use Rattle.std.specs.Prelude.{◌≡◌, ◌<◌, ℕ, List, [], ◌∷◌, ◌++◌, Option, Some, length, slice_get}
use Rattle.htn_base.specs.Limits.{longest_input}
use Rattle.outside_io.specs.Calls.{Passed, got, got_none}
use Rattle.outside_io.specs.Passed.{with_call}
use Rattle.outside_io.specs.Sink.{SinkState}
use Rattle.command_words.specs.Names.{Word}
use Rattle.command_words.specs.Words.{Request}
use Rattle.htn_cli.specs.Answer.{Output, Answer, refuses, gives}
use Rattle.htn_cli.specs.Answers.{IsAnswerFor}
use Rattle.htn_cli.specs.Inputs.{AreShort, EndTooLarge}
use Rattle.htn_cli.specs.Passing.{asked_bytes, gets, puts, CallsAre}
use Rattle.htn_cli.specs.Requests.{inputs_of}
use Rattle.htn_cli.specs.Sent.{TakesWhole}
use Rattle.htn_cli.specs.declared.refusal.Failure.TheVariants as failure
use Rattle.htn_cli.specs.declared.refusal.Limit.TheVariants as limit
use Rattle.htn_cli.specs.declared.refusal.Refusal.{Refusal}
use Rattle.htn_cli.specs.declared.refusal.Refusal.TheVariants as refused

-- a get that was answered too many bytes, or failed
abbrev pub StopsGet : Word → Option (List Passed) → Option (List Passed) → Refusal → Type 0
StopsGet name old new (refused.Limit (limit.Bytes word)) =
    (bytes : List ℕ) × (word.now ≡ name) × (longest_input < length bytes) × (new ≡ with_call old (got name asked_bytes bytes))
StopsGet name old new (refused.Failure (failure.Reading word)) = (word.now ≡ name) × (new ≡ with_call old (got_none name))
StopsGet name old new (refused.Failure failure.Memory) = Unit {0}
StopsGet name old new _ = ⊥

-- a get of one of these names failed, behind those that were answered
abbrev pub FailsGets : List Word → Option (List Passed) → Option (List Passed) → Word → Type 0
FailsGets names old new word =
    (texts : List (List ℕ)) × AreShort texts × (slice_get names (length texts) ≡ Some word)
    × CallsAre old new (gets names texts ++ got_none word ∷ [])

abbrev pub StopsGets : List Word → Option (List Passed) → Option (List Passed) → Refusal → Type 0
StopsGets names old new (refused.Limit (limit.Bytes word)) =
    (texts : List (List ℕ)) × EndTooLarge names texts word.now × CallsAre old new (gets names texts)
StopsGets names old new (refused.Failure (failure.Reading word)) = FailsGets names old new word.now
StopsGets names old new (refused.Failure failure.Memory) = Unit {0}
StopsGets names old new _ = ⊥

-- the inputs that were got have this answer
abbrev pub PassesInputs : Request → Option (List Passed) → Option (List Passed) → Answer → Type 0
PassesInputs request old new answer =
    (texts : List (List ℕ)) × IsAnswerFor request texts answer × CallsAre old new (gets (inputs_of request) texts)

abbrev pub StopsInputs : Request → Option (List Passed) → Option (List Passed) → Refusal → Type 0
StopsInputs request old new (refused.Failure (failure.Reading word)) = FailsGets (inputs_of request) old new word.now
StopsInputs request old new (refused.Failure failure.Memory) = Unit {0}
StopsInputs request old new (refused.Failure _) = ⊥
StopsInputs request old new refusal = PassesInputs request old new (refuses refusal)

-- and were put out
pub record PassesRequest (request : Request) (old new : Option (List Passed)) (out out' : SinkState) : Type 0 where
  pub texts : List (List ℕ)
  pub output : Output
  pub answer : IsAnswerFor request texts (gives output)
  pub called : CallsAre old new (gets (inputs_of request) texts ++ puts output.texts)
  pub told : TakesWhole output.told out out'

abbrev pub StopsRequest : Request → Option (List Passed) → Option (List Passed) → Refusal → Type 0
StopsRequest request old new (refused.Failure (failure.Reading word)) = FailsGets (inputs_of request) old new word.now
StopsRequest request old new (refused.Failure _) = Unit {0}
StopsRequest request old new refusal = PassesInputs request old new (refuses refusal)
