-- What a run promises, whole: all that is promised of what it wrote and told where it was done, and of what it found. Each is said of all
-- problems that its texts spell, in both styles, with both checks of preconditions, and with each number of slots that is printed.
-- Source: this project's, after the translation of Alford et al., "Bound to Plan", ICAPS 2016.
use Rattle.std.specs.Prelude.{◌≡◌, List}
use Rattle.outside_io.specs.Files.{FilesState}
use Rattle.outside_io.specs.Sink.{SinkState}
use Rattle.command_words.specs.Names.{Word}
use Rattle.htn_cli.specs.promise.Headline.{HasHeadline}
use Rattle.htn_cli.specs.promise.Bound.{HasBound}
use Rattle.htn_cli.specs.promise.Plan.{HasPlan}
use Rattle.htn_cli.specs.promise.Tree.{HasTree}
use Rattle.htn_cli.specs.promise.Steps.{HasSteps}
use Rattle.htn_cli.specs.promise.Making.{HasMade}
use Rattle.htn_cli.specs.promise.Pruning.{HasPruned}
use Rattle.htn_cli.specs.promise.Finding.{HasFinding}
use Rattle.htn_cli.specs.declared.status.Status.{Status}
use Rattle.htn_cli.specs.declared.status.Status.TheVariants.{Done, Finding}

pub record KeepsPromise (words : List Word) (files files' : FilesState) (out out' err err' : SinkState) (status : Status) : Type 0 where
  -- the plans of what is written are the schedules of the solutions of what is read
  pub translate : status ≡ Done → HasHeadline words files files' out out'
  -- the bound that is told is the bound of the problem
  pub bound : status ≡ Done → HasBound words files out out'
  -- the tree that is told is the one that the steps spell
  pub decode : status ≡ Done → HasTree words files out out'
  -- the steps that are told spell the latest schedule of the plan
  pub encode : status ≡ Done → HasSteps words files out out'
  -- the list that is called a plan is one
  pub validate : status ≡ Done → HasPlan words files out out'
  -- the made texts are those of the made problem, and the numbers that are told are right
  pub make : status ≡ Done → HasMade words files' out out'
  -- the texts that are written have the solutions and the plans of those that are read, and the numbers that are told are right
  pub prune : status ≡ Done → HasPruned words files files' out out'
  -- and what is found is so
  pub finding : status ≡ Finding → HasFinding words files err err'
