-- The output of a command, as the program makes it.
use Rattle.std.specs.Prelude.{ℕ, ◌≡◌, ◌≢◌, ◌⊎◌, List, [], ◌∷◌, Option, Some, None, IfSome}
use Rattle.outside_io.specs.Files.{FilesState}
use Rattle.command_words.specs.Words.{TranslationRequest, Request}
use Rattle.plan_model.specs.declared.values.Compiled.{Compiled}
use Rattle.htn_cli.specs.Answer.{Text, Output, gives}
use Rattle.htn_cli.specs.Answers.{IsAnswer}
use Rattle.htn_cli.specs.Lines.{slots_line}
use Rattle.htn_cli.specs.Printing.{AreWhole}
use Rattle.htn_cli.specs.Requests.{most_by}
use Rattle.htn_cli.specs.PrintedForms.{IsOrderedFor}
use Rattle.htn_cli.specs.Stops.{StopsOrder, IsChosen, StopsChosen, StopsPrinted}
use Rattle.htn_cli.specs.Texts.{texts_of}
use Rattle.htn_cli.specs.declared.manner.Manner.{Manner}
use Rattle.htn_cli.specs.declared.output.Output.{Output as Made}
use Rattle.htn_cli.specs.declared.output.Written.{Written}
use Rattle.htn_cli.specs.declared.refusal.Refusal.{Refusal}

abbrev pub texts_in : Written → List Text
texts_in written =
    record { name = written.od.now; bytes = written.texts.domain }
    ∷ record { name = written.op.now; bytes = written.texts.problem } ∷ []

abbrev pub texts_by : Option Written → List Text
texts_by (Some written) = texts_in written
texts_by None = []

abbrev pub output_of : Made → Output
output_of made = record { texts = texts_by made.written; told = made.told }

-- no name gets two texts
abbrev pub NamesDiffer : Made → Type 0
NamesDiffer made = IfSome made.written (λ written. written.od.now ≢ written.op.now)

module _ (request : TranslationRequest) where
  abbrev pub manner_of : ℕ → Manner
  manner_of slots = record { slots = slots; form = request.form; rule = request.rule; style = request.style; checks = request.checks }

  -- the texts of a problem with so many slots, for the files of the request, and their line
  module _ (compiled : Compiled) (slots : ℕ) where
    abbrev pub AreMadeWith : Option Written → Type 0
    AreMadeWith (Some written) =
        (written.od.now ≡ request.names.printed_domain) × (written.op.now ≡ request.names.printed_problem)
        × AreWhole compiled (manner_of slots) (texts_of written.texts)
    AreMadeWith None = ⊥

    abbrev pub IsMadeWith : Made → Type 0
    IsMadeWith made = AreMadeWith made.written × (made.told ≡ slots_line slots)

  -- with the number of slots that is given, or else computed
  module _ (compiled : Compiled) (number : Option ℕ) where
    abbrev pub IsMadeFor : Made → Type 0
    IsMadeFor made = IsOrderedFor request.form compiled × ((slots : ℕ) × IsChosen (most_by request.rule) request.level compiled number slots × IsMadeWith compiled slots made)

    abbrev pub StopsMadeFor : Refusal → Type 0
    StopsMadeFor refusal =
        StopsOrder request.form compiled refusal
        ⊎ (IsOrderedFor request.form compiled
        × (StopsChosen (most_by request.rule) request.level compiled number refusal
        ⊎ ((slots : ℕ) × IsChosen (most_by request.rule) request.level compiled number slots × StopsPrinted compiled (manner_of slots) refusal)))

-- what was made is the answer to a request, and nothing was written yet
pub record GivesOutput (request : Request) (old new : FilesState) (made : Made) : Type 0 where
  pub same : new ≡ old
  pub answer : IsAnswer request old (gives (output_of made))
  pub differ : NamesDiffer made
