-- A translation, from the texts of a domain and of a problem: when it is refused, and what it gives.
-- Source: this project's.
use Rattle.std.specs.Prelude.{ℕ, ◌≡◌, ◌≤◌, List, [], ◌∷◌, Option, Some, None}
use Rattle.plan_model.specs.declared.values.Compiled.{Compiled}
use Rattle.command_words.specs.Names.{Word, Names}
use Rattle.command_words.specs.Words.{TranslationRequest, number_of}
use Rattle.htn_cli.specs.Answer.{Text, Output}
use Rattle.htn_cli.specs.Lines.{slots_line}
use Rattle.htn_cli.specs.PrintedForms.{IsOrderedFor}
use Rattle.htn_cli.specs.Problem.{SpellProblem, AreFor, HaveUnordered, HaveBound, HaveCycle, HaveTooMuch}
use Rattle.htn_cli.specs.Requests.{most_by}
use Rattle.htn_cli.specs.Slots.{RefusesSlots}
use Rattle.htn_cli.specs.Texts.{Texts, AreTranslated, AreTooLong}
use Rattle.htn_cli.specs.declared.manner.Manner.{Manner}
use Rattle.htn_cli.specs.declared.refusal.Finding.TheVariants as finding
use Rattle.htn_cli.specs.declared.refusal.Limit.TheVariants as limit
use Rattle.htn_cli.specs.declared.refusal.Refusal.{Refusal}
use Rattle.htn_cli.specs.declared.refusal.Refusal.TheVariants as refused
use Rattle.htn_cli.specs.Levels.{IsBoundAt}
use Rattle.command_words.specs.declared.form.PrintedForm.TheVariants.{Stack}
use Rattle.command_words.specs.declared.level.Level.{Level}

-- so many slots are printed: the number that is given, or else the bound of the problem at the level
abbrev pub AreSlotsOf : Level → Compiled → Option Word → ℕ → Type 0
AreSlotsOf level compiled (Some numeral) n = n ≡ number_of numeral
AreSlotsOf level compiled None n = IsBoundAt level compiled n

-- both texts for the files of these names
abbrev pub texts_for : Names → Texts → List Text
texts_for names texts =
    record { name = names.printed_domain; bytes = texts.domain } ∷ record { name = names.printed_problem; bytes = texts.problem } ∷ []

-- what a translation gives: these, and the number of slots
abbrev pub translation_output : Names → Texts → ℕ → Output
translation_output names texts slots = record { texts = texts_for names texts; told = slots_line slots }

module _ (request : TranslationRequest) (domain problem : List ℕ) where
  abbrev pub manner_with : ℕ → Manner
  manner_with slots = record { slots = slots; form = request.form; rule = request.rule; style = request.style; checks = request.checks }

  -- the problem is printed with so many slots
  pub record IsForSlots (compiled : Compiled) (slots : ℕ) : Type 0 where
    pub problem_is : SpellProblem domain problem request.checks compiled
    pub ordered : IsOrderedFor request.form compiled
    pub slots_are : AreSlotsOf request.level compiled request.numeral slots
    pub some : 1 ≤ slots
    pub few : slots ≤ most_by request.rule

  -- the texts that are written, and the number of their slots
  pub record AreWritten (texts : Texts) (slots : ℕ) : Type 0 where
    pub compiled : Compiled
    pub source : IsForSlots compiled slots
    pub translated : AreTranslated source.problem_is.value compiled (manner_with slots) texts

  -- the problem is printed in the form of the request, and no number of slots is given
  abbrev pub NeedsBound : Type 0
  NeedsBound = (request.numeral ≡ None) × AreFor domain problem request.checks request.form

  -- the bound of the problem, where no number of slots is given, is past a limit
  abbrev pub RefusesBoundOf : Refusal → Type 0
  RefusesBoundOf refusal =
      NeedsBound
      × ((n : ℕ) × HaveBound domain problem request.checks request.level n × RefusesSlots (most_by request.rule) n refusal)

  -- the refusals of texts without a fault
  abbrev pub RefusesTranslation : Refusal → Type 0
  RefusesTranslation (refused.Finding (finding.NotTotallyOrdered word)) =
      (request.form ≡ Stack) × HaveUnordered domain problem request.checks word
  RefusesTranslation (refused.Finding (finding.NotTailRecursive words)) =
      NeedsBound × HaveCycle domain problem request.checks request.level words
  RefusesTranslation (refused.Limit limit.Ground) =
      NeedsBound × HaveTooMuch domain problem request.checks request.level
  RefusesTranslation (refused.Limit limit.Bound) = RefusesBoundOf (refused.Limit limit.Bound)
  RefusesTranslation (refused.Limit (limit.Slots n)) = RefusesBoundOf (refused.Limit (limit.Slots n))
  RefusesTranslation (refused.Limit (limit.Output n)) =
      (compiled : Compiled) × (slots : ℕ) × IsForSlots compiled slots × AreTooLong compiled (manner_with slots) n
  RefusesTranslation _ = ⊥

  -- and what is given
  abbrev pub GivesTranslation : Output → Type 0
  GivesTranslation output = (texts : Texts) × (slots : ℕ) × AreWritten texts slots × (output ≡ translation_output request.names texts slots)
