-- What a translation promises of the problem that its inputs spell, for all that the files tell of the inputs before, and of the outputs
-- after.
-- Source: this project's, after the translation of Alford et al., "Bound to Plan", ICAPS 2016.
use Rattle.std.specs.Prelude.{ℕ, ◌≡◌, List, None, IfSome}
use Rattle.outside_io.specs.Files.{FilesState}
use Rattle.outside_io.specs.Sink.{SinkState}
use Rattle.plan_model.specs.declared.options.Slots.TheVariants.{First}
use Rattle.plan_model.specs.plan_meaning.Network.{network}
use Rattle.slot_machine.specs.Laws.{PendingAreOpenLeaves}
use Rattle.stack_proof.specs.OneTree.{OnePlanForEachTree}
use Rattle.plan_proof.specs.Headline.{HeadlineBy, HeadlineAtBoundBy, OnePlanForEach, LosesNothingBy}
use Rattle.command_words.specs.declared.form.PrintedForm.TheVariants.{Stack}
use Rattle.command_words.specs.Names.{Word}
use Rattle.command_words.specs.Words.{TranslationRequest, number_of, AsksTranslation}
use Rattle.htn_cli.specs.PrintedForms.{SpellingAs}
use Rattle.htn_cli.specs.Told.{IsToldToRead, IsToldToHold}
use Rattle.htn_cli.specs.Lines.{slots_line}
use Rattle.htn_cli.specs.Sent.{TakesWhole}
use Rattle.htn_cli.specs.promise.Problems.{ForEach}

-- what two printed texts are with so many slots: a list is a plan of them exactly where it spells a schedule of a solution tree with never
-- more tasks pending; spelled with free slots by the rule of the request, any ones or the lowest, or with the cells of a stack
pub record KeepPlans (request : TranslationRequest) (d p od op : List ℕ) (slots : ℕ) : Type 0 where
  pub given : IfSome request.numeral (λ numeral. slots ≡ number_of numeral)
  pub headline : HeadlineBy (SpellingAs request.form request.rule) d p request.checks slots od op
  pub at_bound : HeadlineAtBoundBy (SpellingAs request.form request.rule) d p request.checks slots od op
  -- after a whole schedule what is pending are the open leaves
  pub open_leaves : ForEach d p request.checks (λ h c. PendingAreOpenLeaves (network c))
  -- without a given number of slots no schedule of any solution is lost
  pub nothing_lost : request.numeral ≡ None → ForEach d p request.checks (λ h c. LosesNothingBy (SpellingAs request.form request.rule) c slots od op)
  -- with the lowest free slots each such schedule has exactly one plan
  pub one_plan : request.rule ≡ First → OnePlanForEach (SpellingAs request.form request.rule) d p request.checks slots od op
  -- with a stack each such tree has exactly one
  pub one_tree : request.form ≡ Stack → OnePlanForEachTree (SpellingAs request.form request.rule) d p request.checks slots od op

-- the number of slots that was told, and what the two written texts are with so many
pub record KeepsPlans (request : TranslationRequest) (d p od op : List ℕ) (out out' : SinkState) : Type 0 where
  pub slots : ℕ
  pub told : TakesWhole (slots_line slots) out out'
  pub keep : KeepPlans request d p od op slots

module _ (words : List Word) (files files' : FilesState) where
  -- all that is told of the files of a translation
  pub record IsTold (request : TranslationRequest) (d p od op : List ℕ) : Type 0 where
    pub asked : AsksTranslation words request
    pub domain_read : IsToldToRead files request.names.domain d
    pub problem_read : IsToldToRead files request.names.problem p
    pub domain_held : IsToldToHold files' request.names.printed_domain od
    pub problem_held : IsToldToHold files' request.names.printed_problem op

  module _ (out out' : SinkState) where
    abbrev pub HasHeadline : Type 0
    HasHeadline = (request : TranslationRequest) (d p od op : List ℕ) → IsTold request d p od op → KeepsPlans request d p od op out out'
