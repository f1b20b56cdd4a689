-- What a told bound promises of the problem that the inputs spell, for all that the files tell of the inputs.
-- Source: this project's, after the translation of Alford et al., "Bound to Plan", ICAPS 2016.
use Rattle.std.specs.Prelude.{ℕ, ◌≡◌, ◌≤◌, List, [], ◌∷◌}
use Rattle.outside_io.specs.Files.{FilesState}
use Rattle.outside_io.specs.Sink.{SinkState}
use Rattle.plan_model.specs.declared.options.Slots.{Slots}
use Rattle.plan_model.specs.declared.options.Style.{Style}
use Rattle.plan_model.specs.declared.values.Pddl.{Pddl}
use Rattle.plan_model.specs.task_networks.Tree.{Tree, Address}
use Rattle.plan_model.specs.task_networks.Front.{IsFront}
use Rattle.plan_model.specs.task_networks.Pending.{IsWithin}
use Rattle.plan_model.specs.plan_meaning.Network.{network}
use Rattle.plan_model.specs.plan_meaning.Solution.{top_work, IsSolution}
use Rattle.plan_texts.specs.PrintedTexts.{domain_text, problem_text}
use Rattle.plan_proof.specs.Headline.{LosesNothingBy}
use Rattle.command_words.specs.declared.form.PrintedForm.{PrintedForm}
use Rattle.htn_cli.specs.PrintedForms.{SpellingAs, IsPrintedAs}
use Rattle.command_words.specs.Names.{Word}
use Rattle.command_words.specs.Words.{BoundRequest, AsksBound}
use Rattle.htn_cli.specs.Told.{AreToldToRead}
use Rattle.htn_cli.specs.Lines.{bound_line}
use Rattle.htn_cli.specs.Sent.{TakesWhole}
use Rattle.htn_cli.specs.promise.Problems.{ForEach}
use Rattle.htn_cli.specs.Levels.{IsBoundAt}
use Rattle.command_words.specs.declared.level.Level.TheVariants.{Lifted}

-- a bound that was told: that of the problem at the level, so that from it on the texts that are printed lose no schedule of any solution
pub record TellsBound (request : BoundRequest) (d p : List ℕ) (out out' : SinkState) : Type 0 where
  pub bound : ℕ
  pub told : TakesWhole (bound_line bound) out out'
  pub is : ForEach d p request.checks (λ h c. IsBoundAt request.level c bound)
  -- no schedule of a solution has more pending at any time
  pub every_solution : ForEach d p request.checks (λ h c. (tree : Tree (network c)) (order : List Address)
      → IsSolution c tree order → IsWithin (network c) bound tree order)
  -- and of the schemas no front, executable or not
  pub every_front : request.level ≡ Lifted → ForEach d p request.checks (λ h c. (tree : Tree (network c)) (order : List Address)
      → IsFront (network c) (top_work c) tree order → IsWithin (network c) bound tree order)
  pub nothing_lost : ForEach d p request.checks (λ h c. (slots : ℕ) → bound ≤ slots → (form : PrintedForm) (rule : Slots) (style : Style) (value : Pddl)
      → IsPrintedAs form rule h request.checks c slots style value
      → LosesNothingBy (SpellingAs form rule) c slots (domain_text value) (problem_text value))

module _ (words : List Word) (files : FilesState) (out out' : SinkState) where
  abbrev pub HasBound : Type 0
  HasBound = (request : BoundRequest) (d p : List ℕ) → AsksBound words request
      → AreToldToRead files (request.domain ∷ request.problem ∷ []) (d ∷ p ∷ []) → TellsBound request d p out out'
