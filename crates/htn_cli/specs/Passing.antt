-- What passed between a run and its files: the gets and the puts that it made, in their order and with their bytes, and what is true of
-- these bytes.
-- Source: this project's.
use Rattle.std.specs.Prelude.{ℕ, ◌+◌, ◌≡◌, List, [], ◌∷◌, ◌++◌, Option, Some, length, map, option_map, slice_get}
use Rattle.htn_base.specs.Limits.{longest_input}
use Rattle.outside_io.specs.Calls.{Passed, got, got_none, stored}
use Rattle.outside_io.specs.Sink.{SinkState}
use Rattle.command_words.specs.Names.{Word}
use Rattle.command_words.specs.Words.{Request, to_translate, to_bound, to_decode, to_encode, to_validate, to_make, to_prune, Asks, AreOfAForm}
use Rattle.htn_cli.specs.Answer.{Text, Output, refuses, gives}
use Rattle.htn_cli.specs.Answers.{IsAnswerFor}
use Rattle.htn_cli.specs.Inputs.{AreShort}
use Rattle.htn_cli.specs.Refusal.{status_of, line_of}
use Rattle.htn_cli.specs.Requests.{inputs_of}
use Rattle.htn_cli.specs.Sent.{TakesWhole, Told}
use Rattle.htn_cli.specs.promise.Headline.{KeepsPlans}
use Rattle.htn_cli.specs.promise.Bound.{TellsBound}
use Rattle.htn_cli.specs.promise.Plan.{TellsPlan}
use Rattle.htn_cli.specs.promise.Tree.{TellsTree}
use Rattle.htn_cli.specs.promise.Steps.{TellsSteps}
use Rattle.htn_cli.specs.promise.Making.{KeepsMade}
use Rattle.htn_cli.specs.promise.Pruning.{KeepsPruned}
use Rattle.htn_cli.specs.promise.Finding.{TellsFinding}
use Rattle.htn_cli.specs.declared.status.Status.{Status}
use Rattle.htn_cli.specs.declared.refusal.Failure.TheVariants as failure
use Rattle.htn_cli.specs.declared.refusal.Refusal.{Refusal}
use Rattle.htn_cli.specs.declared.refusal.Refusal.TheVariants as refused

-- a get asks for one byte more than a text may have, so that a text of fewer bytes is whole
abbrev pub asked_bytes : ℕ
asked_bytes = longest_input + 1

-- gets of the first of these names, one after another, which were answered these bytes
abbrev pub gets : List Word → List (List ℕ) → List Passed
gets names [] = []
gets [] (text ∷ texts) = []
gets (name ∷ names) (text ∷ texts) = got name asked_bytes text ∷ gets names texts

-- puts of these texts, one after another
abbrev pub puts : List Text → List Passed
puts texts = map (λ (text : Text). stored text.name text.bytes) texts

-- the calls so far, and then these, where they are told
abbrev pub with_calls : Option (List Passed) → List Passed → Option (List Passed)
with_calls calls more = option_map (λ told. told ++ more) calls

abbrev pub CallsAre : Option (List Passed) → Option (List Passed) → List Passed → Type 0
CallsAre old new calls = new ≡ with_calls old calls

-- what is promised of an output, over the texts that were got and those that were put
abbrev pub Keeps : Request → List (List ℕ) → List Text → SinkState → SinkState → Type 0
Keeps (to_translate r) (d ∷ p ∷ []) (od ∷ op ∷ []) out out' = KeepsPlans r d p od.bytes op.bytes out out'
Keeps (to_bound r) (d ∷ p ∷ []) [] out out' = TellsBound r d p out out'
Keeps (to_decode r) (d ∷ p ∷ plan ∷ []) [] out out' = TellsTree r d p plan out out'
Keeps (to_encode r) (d ∷ p ∷ hplan ∷ []) [] out out' = TellsSteps r d p hplan out out'
Keeps (to_validate r) (pd ∷ pp ∷ plan ∷ []) [] out out' = TellsPlan pd pp plan out out'
Keeps (to_make r) [] (od ∷ op ∷ []) out out' = KeepsMade r od.bytes op.bytes out out'
Keeps (to_prune r) (d ∷ p ∷ []) (od ∷ op ∷ []) out out' = KeepsPruned d p od.bytes op.bytes out out'
Keeps _ _ _ out out' = ⊥

module _ (words : List Word) (Called : List Passed → Type 0) where
  -- what the words ask for was done: each input was got once, in their order, and then each output was put once, in theirs; the output is
  -- the answer for the texts that were got, and what is promised is true of these bytes
  pub record PassesDone (out out' : SinkState) : Type 0 where
    pub request : Request
    pub asked : Asks words request
    pub texts : List (List ℕ)
    pub output : Output
    pub answer : IsAnswerFor request texts (gives output)
    pub called : Called (gets (inputs_of request) texts ++ puts output.texts)
    pub told : TakesWhole output.told out out'
    pub keeps : Keeps request texts output.texts out out'

  -- before a refusal inputs were got, in their order, and nothing was put; the refusal is the answer for the texts that were got
  abbrev pub CallsBefore : Refusal → Type 0
  CallsBefore refused.Words = (AreOfAForm words → ⊥) × Called []
  CallsBefore (refused.Failure (failure.Reading name)) =
      (request : Request) × Asks words request × (texts : List (List ℕ)) × AreShort texts
      × (slice_get (inputs_of request) (length texts) ≡ Some name.now) × Called (gets (inputs_of request) texts ++ got_none name.now ∷ [])
  CallsBefore (refused.Failure _) = Unit {0}
  CallsBefore refusal =
      (request : Request) × Asks words request × (texts : List (List ℕ)) × IsAnswerFor request texts (refuses refusal)
      × Called (gets (inputs_of request) texts)

  -- and a finding is true of them
  pub record PassesRefused (ended : Status) (err err' : SinkState) : Type 0 where
    pub refusal : Refusal
    pub status_is : ended ≡ status_of refusal
    pub told : Told (line_of refusal) err err'
    pub calls : CallsBefore refusal

  pub record PassesFinding (err err' : SinkState) : Type 0 where
    pub request : Request
    pub asked : Asks words request
    pub texts : List (List ℕ)
    pub called : Called (gets (inputs_of request) texts)
    pub finding : TellsFinding request texts err err'
