-- What a pruning promises of each problem that its inputs spell, for all that the files tell of the inputs before, and of the outputs after.
-- Source: this project's.
use Rattle.std.specs.Prelude.{ℕ, ◌≡◌, List, [], ◌∷◌, length}
use Rattle.outside_io.specs.Files.{FilesState}
use Rattle.outside_io.specs.Sink.{SinkState}
use Rattle.plan_model.specs.declared.options.Checks.{Checks}
use Rattle.plan_model.specs.declared.values.Hddl.{Hddl}
use Rattle.plan_model.specs.declared.values.Compiled.{Compiled}
use Rattle.plan_model.specs.plan_meaning.Compilation.{IsCompiled}
use Rattle.plan_model.specs.plan_meaning.Laws.{AreOrdered}
use Rattle.plan_texts.specs.FirstSeen.{IsHddlOf}
use Rattle.plan_texts.specs.SoundProblem.{IsSoundProblem}
use Rattle.live_parts.specs.Kept.{Kept}
use Rattle.live_parts.specs.Laws.{SameTreesSolve, SameTreesAreAsWide, SolutionsStay, SolutionsComeBack, SameTreeIsOne}
use Rattle.hddl_prune.specs.Pruning.{IsPruned, CannotBeSolved}
use Rattle.hddl_texts.specs.PrintedHddl.{hddl_domain_text, hddl_problem_text}
use Rattle.pruned_answers.specs.PrunedTexts.{AreItsTexts, KeepPlans, HaveNoSolution}
use Rattle.command_words.specs.Names.{Word}
use Rattle.command_words.specs.Words.{PruneRequest, AsksPrune}
use Rattle.htn_cli.specs.Lines.{kept_line}
use Rattle.htn_cli.specs.Refusal.{line_of}
use Rattle.htn_cli.specs.Sent.{TakesWhole, Told}
use Rattle.htn_cli.specs.Told.{AreToldToRead, IsToldToHold}
use Rattle.htn_cli.specs.declared.refusal.Finding.TheVariants as finding
use Rattle.htn_cli.specs.declared.refusal.Refusal.TheVariants as refused

-- the solutions of what is kept are those of the problem, once schemas are read by their names: each tree that is a solution of the one is
-- the same as one of the other, with the same orders and the same widths, and as one alone
pub record HasItsSolutions (h : Hddl) (kept : Kept) (new old : Compiled) : Type 0 where
  pub same : SameTreesSolve h kept new old
  pub as_wide : SameTreesAreAsWide h kept new old
  pub stay : SolutionsStay h kept new old
  pub come_back : SolutionsComeBack h kept new old
  pub one : SameTreeIsOne h kept new old

-- what two written texts are to one problem, where so many tasks, methods and actions were told
pub record ArePrunedTexts (tasks methods actions : ℕ) (od op : List ℕ) (h : Hddl) : Type 0 where
  -- the problem with exactly what is kept of it
  pub value : Hddl
  pub pruned : IsPruned h value
  pub tasks_are : tasks ≡ length pruned.kept.tasks
  pub methods_are : methods ≡ length pruned.kept.methods
  pub actions_are : actions ≡ length pruned.kept.actions
  -- the texts are printed for it, and spell it but for the ids of subtasks, where the problem is as a reader gives it
  pub domain_is : od ≡ hddl_domain_text value
  pub problem_is : op ≡ hddl_problem_text value
  pub spelled : IsSoundProblem h → AreOrdered h → AreItsTexts value
  -- it has the solutions of the problem, in both modes of checks
  pub solutions : (checks : Checks) (new old : Compiled) → IsCompiled value checks new → IsCompiled h checks old
      → HasItsSolutions h pruned.kept new old

-- the numbers that were told, and what the two written texts are: in each mode of checks, for each number of slots and in each style, what is
-- translated of them has the plans of what is translated of the texts that were read
pub record KeepsPruned (d p od op : List ℕ) (out out' : SinkState) : Type 0 where
  pub tasks : ℕ
  pub methods : ℕ
  pub actions : ℕ
  pub told : TakesWhole (kept_line tasks methods actions) out out'
  pub kept : (h : Hddl) → IsHddlOf d p h → ArePrunedTexts tasks methods actions od op h
  pub plans : KeepPlans d p od op

-- a problem that was said to have no solution: its top method isn't live, or its goal can't be so, and in neither mode of checks it has one
pub record TellsUnsolved (d p : List ℕ) (err err' : SinkState) : Type 0 where
  pub told : Told (line_of (refused.Finding finding.NoSolution)) err err'
  pub cause : (h : Hddl) → IsHddlOf d p h → CannotBeSolved h
  pub none : HaveNoSolution d p

module _ (words : List Word) (files files' : FilesState) (out out' : SinkState) where
  abbrev pub HasPruned : Type 0
  HasPruned = (request : PruneRequest) (d p od op : List ℕ) → AsksPrune words request
      → AreToldToRead files (request.names.domain ∷ request.names.problem ∷ []) (d ∷ p ∷ [])
      → IsToldToHold files' request.names.printed_domain od → IsToldToHold files' request.names.printed_problem op
      → KeepsPruned d p od op out out'
