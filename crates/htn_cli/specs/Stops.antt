-- How one step of a run is refused: what it leaves, and with which refusal it ends the run.
use Rattle.std.specs.Prelude.{◌≡◌, ◌≢◌, ◌<◌, ◌≤◌, ◌^◌, ◌⊎◌, ℕ, List, Option, Some, None, IfSome, length}
use Rattle.htn_base.specs.Limits.{longest_input, longest_output, most_slots, most_steps}
use Rattle.outside_io.specs.Files.{FilesState, GetFails, PutFails}
use Rattle.outside_io.specs.Sink.{SinkState}
use Rattle.plan_model.specs.declared.steps.GroundAction.{GroundAction}
use Rattle.plan_model.specs.declared.values.Compiled.{Compiled}
use Rattle.plan_model.specs.declared.values.Pddl.{Pddl}
use Rattle.plan_model.specs.plan_meaning.Bound.{IsBound}
use Rattle.plan_text.specs.Plans.{IsPlanFault, IsPlanRead}
use Rattle.text_forms.specs.Faults.{fault}
use Rattle.text_forms.specs.sheets.Sheets.{capped}
use Rattle.text_values.specs.PddlValues as pddl
use Rattle.hddl_reader.specs.declared.sections.Language.TheVariants as language
use Rattle.bound_calc.specs.NoBound.{NamesCycle}
use Rattle.command_words.specs.declared.form.PrintedForm.{PrintedForm}
use Rattle.command_words.specs.declared.form.PrintedForm.TheVariants.{Stack}
use Rattle.htn_cli.specs.PrintedForms.{IsOrderedFor, NamesUnordered, unordered_word}
use Rattle.command_words.specs.Names.{Word, AreApart}
use Rattle.command_words.specs.Bounds.{IsNumeral, IsCount}
use Rattle.command_words.specs.Words.{Request, translation_of, decode_of, encode_of, make_of, prune_of, number_of}
use Rattle.command_words.specs.declared.asking.Asked.{Asked}
use Rattle.command_words.specs.declared.asking.Asked.TheVariants as asked
use Rattle.htn_cli.specs.Answer.{Text, Output, refuses}
use Rattle.htn_cli.specs.Answers.{IsAnswer, RefusesFault, Refuses}
use Rattle.htn_cli.specs.Faults.{IsFaultAt, IsNoLimit, limit_code}
use Rattle.htn_cli.specs.Inputs.{AreGot, AreShort, EndTooLarge, FailsToRead}
use Rattle.htn_cli.specs.Requests.{inputs_of, IsWithin}
use Rattle.htn_cli.specs.ShownForms.{FailsAs, HaveTextAs}
use Rattle.htn_cli.specs.Slots.{RefusesSlots}
use Rattle.htn_cli.specs.Told.{Reads}
use Rattle.htn_cli.specs.Texts.{AreTooLong}
use Rattle.htn_cli.specs.LeastFaults.{IsLeastWithPlan}
use Rattle.htn_cli.specs.Validation.{RefusesPlan, AreConfirmed}
use Rattle.htn_cli.specs.Left.{FailsToPut, StandInPart, StandsUpTo}
use Rattle.htn_cli.specs.Sent.{TakesThenFails, TakesThenStarves}
use Rattle.htn_cli.specs.declared.faults.Place.{Place}
use Rattle.htn_cli.specs.declared.manner.Manner.{Manner}
use Rattle.htn_cli.specs.declared.refusal.Failure.TheVariants as failure
use Rattle.htn_cli.specs.declared.refusal.Finding.TheVariants as finding
use Rattle.htn_cli.specs.declared.refusal.Limit.TheVariants as limit
use Rattle.htn_cli.specs.declared.refusal.Refusal.{Refusal}
use Rattle.htn_cli.specs.declared.refusal.Refusal.TheVariants as refused
use Rattle.htn_cli.specs.Levels.{IsBoundAt, NamesCycleAt, IsPastCount}
use Rattle.command_words.specs.declared.level.Level.{Level}

-- an input that was read, with all its bytes
pub record GivesInput (name : Word) (old new : FilesState) (bytes : List ℕ) : Type 0 where
  pub same : new ≡ old
  pub read : Reads old name bytes
  pub short : length bytes ≤ longest_input

-- an input that was not read, or is too large
abbrev pub StopsInput : Word → FilesState → FilesState → Refusal → Type 0
StopsInput name old new (refused.Failure (failure.Reading word)) = (word.now ≡ name) × GetFails old new name
StopsInput name old new (refused.Failure failure.Memory) = new ≡ old
StopsInput name old new (refused.Limit (limit.Bytes word)) =
    (word.now ≡ name) × ((bytes : List ℕ) × Reads old name bytes × (longest_input < length bytes)) × (new ≡ old)
StopsInput name old new _ = ⊥

-- the first inputs of these names, as they were read one after another
pub record GivesTexts (names : List Word) (old new : FilesState) (texts : List (List ℕ)) : Type 0 where
  pub same : new ≡ old
  pub got : AreGot old names texts
  pub short : AreShort texts

-- inputs, one of which was not read, or is too large
abbrev pub StopsReading : List Word → FilesState → FilesState → Refusal → Type 0
StopsReading names old new (refused.Failure (failure.Reading word)) = FailsToRead old names new word.now
StopsReading names old new (refused.Failure failure.Memory) = new ≡ old
StopsReading names old new (refused.Limit (limit.Bytes word)) =
    ((texts : List (List ℕ)) × AreGot old names texts × EndTooLarge names texts word.now) × (new ≡ old)
StopsReading names old new _ = ⊥

-- the texts with a fault, of files with these names
abbrev pub StopsFault : List Word → ((file code at : ℕ) → Type 0) → Refusal → Type 0
StopsFault names IsLeast (refused.Fault place code) = IsFaultAt names IsLeast place code × IsNoLimit code
StopsFault names IsLeast (refused.Limit (limit.Text counted place)) = IsFaultAt names IsLeast place (limit_code counted)
StopsFault names IsLeast (refused.Failure failure.Memory) = Unit {0}
StopsFault names IsLeast _ = ⊥

-- the third has this fault as a plan
abbrev pub IsFaultOfThird : (plan : List ℕ) → (file code at : ℕ) → Type 0
IsFaultOfThird plan file code at = (file ≡ 2) × IsPlanFault plan (fault code at)

-- texts of all inputs of a request that give no output
abbrev pub StopsTexts : Request → List (List ℕ) → Refusal → Type 0
StopsTexts request texts (refused.Failure failure.Memory) = Unit {0}
StopsTexts request texts (refused.Failure _) = ⊥
StopsTexts request texts refusal = RefusesFault request texts refusal ⊎ Refuses request texts refusal

-- a text of steps that are a plan of a value, over each two texts with this value
abbrev pub IsConfirmedFor : Pddl → List ℕ → Type 0
IsConfirmedFor value plan = (domain problem : List ℕ) → pddl.IsValueOf domain problem value → AreConfirmed domain problem plan

-- three texts of files with these names that hold no plan; or memory ran out
abbrev pub StopsPlan : List Word → (domain problem plan : List ℕ) → Refusal → Type 0
StopsPlan names domain problem plan (refused.Limit (limit.Steps n)) = RefusesPlan domain problem plan (refused.Limit (limit.Steps n))
StopsPlan names domain problem plan (refused.Finding f) = RefusesPlan domain problem plan (refused.Finding f)
StopsPlan names domain problem plan refusal = StopsFault names (IsLeastWithPlan language.Pddl domain problem plan) refusal

-- and a text that holds no plan of a value
abbrev pub StopsFor : List Word → Pddl → List ℕ → Refusal → Type 0
StopsFor names value plan refusal = (domain problem : List ℕ)
    → pddl.IsValueOf domain problem value → StopsPlan names domain problem plan refusal

-- a method that is not totally ordered, where this form takes no such problem; or memory ran out
abbrev pub StopsOrder : PrintedForm → Compiled → Refusal → Type 0
StopsOrder form compiled (refused.Finding (finding.NotTotallyOrdered word)) = (form ≡ Stack) × NamesUnordered compiled word
StopsOrder form compiled (refused.Failure failure.Memory) = Unit {0}
StopsOrder form compiled _ = ⊥

-- the refusal of a problem with this first method that is not totally ordered; or memory ran out
abbrev pub TellsUnorderedAt : Compiled → ℕ → Refusal → Type 0
TellsUnorderedAt compiled m (refused.Finding (finding.NotTotallyOrdered word)) = word ≡ unordered_word compiled m
TellsUnorderedAt compiled m (refused.Failure failure.Memory) = Unit {0}
TellsUnorderedAt compiled m _ = ⊥

-- a bound that was not computed
abbrev pub StopsBound : Level → Compiled → Refusal → Type 0
StopsBound level compiled (refused.Finding (finding.NotTailRecursive words)) = NamesCycleAt level compiled words
StopsBound level compiled (refused.Limit limit.Ground) = IsPastCount level compiled
StopsBound level compiled (refused.Limit limit.Bound) = (n : ℕ) × IsBoundAt level compiled n × (2 ^ 128 ≤ n)
StopsBound level compiled (refused.Failure failure.Memory) = Unit {0}
StopsBound level compiled _ = ⊥

-- where so many slots are printed, and no more
module _ (most : ℕ) where
  -- so many slots, which are printed
  pub record AreSlots (n slots : ℕ) : Type 0 where
    pub same : slots ≡ n
    pub some : 1 ≤ slots
    pub few : slots ≤ most

  -- the given number, where one is given
  abbrev pub IsGiven : Option Word → Option ℕ → Type 0
  IsGiven (Some numeral) (Some slots) = AreSlots (number_of numeral) slots
  IsGiven None None = Unit {0}
  IsGiven (Some numeral) None = ⊥
  IsGiven None (Some slots) = ⊥

  abbrev pub StopsGiven : Option Word → Refusal → Type 0
  StopsGiven (Some numeral) refusal = RefusesSlots most (number_of numeral) refusal
  StopsGiven None refusal = ⊥

  -- the bound of the problem, as a number of slots
  abbrev pub IsComputed : Level → Compiled → ℕ → Type 0
  IsComputed level compiled slots = (n : ℕ) × IsBoundAt level compiled n × AreSlots n slots

  abbrev pub StopsComputed : Level → Compiled → Refusal → Type 0
  StopsComputed level compiled refusal =
      StopsBound level compiled refusal ⊎ ((n : ℕ) × IsBoundAt level compiled n × RefusesSlots most n refusal)

  -- the number of slots, given or computed
  abbrev pub IsChosen : Level → Compiled → Option ℕ → ℕ → Type 0
  IsChosen level compiled (Some given) slots = slots ≡ given
  IsChosen level compiled None slots = IsComputed level compiled slots

  abbrev pub StopsChosen : Level → Compiled → Option ℕ → Refusal → Type 0
  StopsChosen level compiled (Some given) refusal = ⊥
  StopsChosen level compiled None refusal = StopsComputed level compiled refusal

-- a text that was not made
abbrev pub StopsPrinted : Compiled → Manner → Refusal → Type 0
StopsPrinted compiled manner (refused.Limit (limit.Output n)) = AreTooLong compiled manner n
StopsPrinted compiled manner (refused.Failure failure.Memory) = Unit {0}
StopsPrinted compiled manner _ = ⊥

-- memory ran out
abbrev pub IsWant : Refusal → Type 0
IsWant (refused.Failure failure.Memory) = Unit {0}
IsWant _ = ⊥

-- a number of slots that may be asked for
abbrev pub IsInRange : ℕ → Type 0
IsInRange slots = (1 ≤ slots) × (slots ≤ most_slots)

-- too many steps
abbrev pub StopsSteps : List GroundAction → Refusal → Type 0
StopsSteps steps (refused.Limit (limit.Steps n)) = (n ≡ length steps) × (most_steps < n)
StopsSteps steps _ = ⊥

-- the text of the tree that steps spell with so many slots, in this form
abbrev pub HaveShortText : PrintedForm → Compiled → ℕ → List GroundAction → List ℕ → Type 0
HaveShortText form compiled slots steps text = HaveTextAs form compiled slots steps text × (length text ≤ longest_output)

-- steps that spell no solution with so many slots, or whose text is too long; or memory ran out
abbrev pub StopsTreeWith : PrintedForm → Compiled → ℕ → List GroundAction → Refusal → Type 0
StopsTreeWith form compiled slots steps (refused.Finding (finding.SpellsNoSolution step why)) = FailsAs form compiled slots steps step why
StopsTreeWith form compiled slots steps (refused.Limit (limit.Output n)) =
    (text : List ℕ) × HaveTextAs form compiled slots steps text × (n ≡ capped (length text)) × (longest_output < n)
StopsTreeWith form compiled slots steps (refused.Failure failure.Memory) = Unit {0}
StopsTreeWith form compiled slots steps _ = ⊥

-- the number of slots is the given one, or else the bound at the level
module _ (form : PrintedForm) (level : Level) (compiled : Compiled) (given : Option ℕ) where
  -- the text of the tree that steps spell
  abbrev pub IsTreeFor : List GroundAction → List ℕ → Type 0
  IsTreeFor steps text =
      (slots : ℕ) × (length steps ≤ most_steps) × IsOrderedFor form compiled × IsChosen most_slots level compiled given slots
      × HaveShortText form compiled slots steps text

  -- steps without this text
  abbrev pub StopsTree : List GroundAction → Refusal → Type 0
  StopsTree steps refusal =
      StopsSteps steps refusal
      ⊎ ((length steps ≤ most_steps)
      × (StopsOrder form compiled refusal
      ⊎ (IsOrderedFor form compiled
      × (StopsChosen most_slots level compiled given refusal
      ⊎ ((slots : ℕ) × IsChosen most_slots level compiled given slots × StopsTreeWith form compiled slots steps refusal)))))

  -- and that of the steps of a text
  abbrev pub IsToldFor : (plan text : List ℕ) → Type 0
  IsToldFor plan text = (steps : List GroundAction) × IsPlanRead plan steps × IsTreeFor steps text

  -- a text without it, where files have these names, and this is the third
  abbrev pub StopsTelling : List Word → (plan : List ℕ) → Refusal → Type 0
  StopsTelling names plan refusal =
      StopsFault names (IsFaultOfThird plan) refusal ⊎ ((steps : List GroundAction) × IsPlanRead plan steps × StopsTree steps refusal)

-- a put that was refused
abbrev pub StopsPut : Word → FilesState → FilesState → Refusal → Type 0
StopsPut name old new (refused.Failure (failure.Writing word)) = (word.now ≡ name) × PutFails old new name
StopsPut name old new (refused.Failure failure.Memory) = new ≡ old
StopsPut name old new _ = ⊥

-- puts of these texts, one of which was refused
abbrev pub StopsPuts : List Text → FilesState → FilesState → Refusal → Type 0
StopsPuts texts old new (refused.Failure (failure.Writing word)) = FailsToPut texts word.now old new
StopsPuts texts old new (refused.Failure failure.Memory) = StandInPart texts old new
StopsPuts texts old new _ = ⊥

-- a text on standard output that was refused
abbrev pub StopsPrint : List ℕ → SinkState → SinkState → Refusal → Type 0
StopsPrint text old new (refused.Failure failure.Telling) = TakesThenFails text old new
StopsPrint text old new (refused.Failure failure.Memory) = TakesThenStarves text old new
StopsPrint text old new _ = ⊥

-- an output, a part of which was refused
abbrev pub StopsDelivery : Output → FilesState → FilesState → SinkState → SinkState → Refusal → Type 0
StopsDelivery output old new out out' (refused.Failure (failure.Writing word)) = FailsToPut output.texts word.now old new × (out' ≡ out)
StopsDelivery output old new out out' (refused.Failure failure.Telling) = StandsUpTo TakesThenFails output old new out out'
StopsDelivery output old new out out' (refused.Failure failure.Memory) =
    (StandInPart output.texts old new × (out' ≡ out)) ⊎ StandsUpTo TakesThenStarves output old new out out'
StopsDelivery output old new out out' _ = ⊥

-- a request that gives no output
abbrev pub StopsOutput : Request → FilesState → FilesState → Refusal → Type 0
StopsOutput request old new (refused.Failure (failure.Reading word)) = IsWithin request × FailsToRead old (inputs_of request) new word.now
StopsOutput request old new (refused.Failure failure.Memory) = IsWithin request × (new ≡ old)
StopsOutput request old new (refused.Failure _) = ⊥
StopsOutput request old new refusal = IsAnswer request old (refuses refusal) × (new ≡ old)

-- the refusal for a fault with this code at this place
abbrev pub IsRefusalOf : Place → ℕ → Refusal → Type 0
IsRefusalOf place code (refused.Fault at other) = (at ≡ place) × (other ≡ code) × IsNoLimit code
IsRefusalOf place code (refused.Limit (limit.Text counted at)) = (at ≡ place) × (code ≡ limit_code counted)
IsRefusalOf place code _ = ⊥

-- what is asked for keeps the rules of words: a numeral is one, a count is one, and outputs are apart
abbrev pub IsWellAsked : Asked → Type 0
IsWellAsked (asked.Translation t) = IfSome (translation_of t).numeral IsNumeral × AreApart (translation_of t).names
IsWellAsked (asked.Decoding d) = IfSome (decode_of d).numeral IsNumeral
IsWellAsked (asked.Encoding e) = IfSome (encode_of e).numeral IsNumeral
IsWellAsked (asked.Making m) = IsCount (make_of m).numeral × ((make_of m).printed_domain ≢ (make_of m).printed_problem)
IsWellAsked (asked.Pruning p) = AreApart (prune_of p).names
IsWellAsked _ = Unit {0}
