-- What is proved of shown plans, and of the plan that a run shows.
-- Source: this project's.
use Rattle.std.specs.Prelude.{◌≡◌, List}
use Rattle.plan_texts.specs.SoundProblem.{IsSoundProblem}
use Rattle.plan_model.specs.declared.options.Checks.{Checks}
use Rattle.plan_model.specs.declared.values.Hddl.{Hddl}
use Rattle.plan_model.specs.declared.values.Compiled.{Compiled}
use Rattle.plan_model.specs.task_networks.Tree.{Tree, Address}
use Rattle.plan_model.specs.task_networks.Front.{IsFinished}
use Rattle.plan_model.specs.plan_meaning.Network.{network}
use Rattle.plan_model.specs.plan_meaning.Solution.{top_work}
use Rattle.plan_model.specs.plan_meaning.Compilation.{IsCompiled}
use Rattle.tree_core.specs.declared.growth.Scheduled.{Scheduled}
use Rattle.tree_core.specs.Runs.{StandsFor}
use Rattle.hplan_text.specs.declared.values.HPlan.{HPlan}
use Rattle.hplan_text.specs.ShownPlan.{ShowsHPlan}
use Rattle.hplan_text.specs.HPlanText.{hplan_text}
use Rattle.hplan_text.specs.Reading.{IsReadAlone}
use Rattle.hplan_text.specs.Printable.{IsPrintableHPlan, IsSoundHPlan}

-- a finished tree with its order shows exactly one plan
pub record IsShownOnce (c : Compiled) (tree : Tree (network c)) (order : List Address) : Type 0 where
  pub plan : HPlan
  pub shows : ShowsHPlan c tree order plan
  pub only : (other : HPlan) → ShowsHPlan c tree order other → other ≡ plan

abbrev pub EachIsShownOnce : Compiled → Type 0
EachIsShownOnce c = (tree : Tree (network c)) (order : List Address) → IsFinished (network c) (top_work c) tree order → IsShownOnce c tree order

-- the plan is that of each finished tree and schedule for which the run stands
abbrev pub IsShown : Compiled → Scheduled → HPlan → Type 0
IsShown c run plan = (tree : Tree (network c)) (order : List Address) → IsFinished (network c) (top_work c) tree order → StandsFor c run tree order → ShowsHPlan c tree order plan

-- the run stands for a finished tree, and for its schedule, of what is compiled of a sound problem
pub record IsSoundRun (c : Compiled) (run : Scheduled) : Type 0 where
  pub problem : Hddl
  pub checks : Checks
  pub sound : IsSoundProblem problem
  pub compiled : IsCompiled problem checks c
  pub tree : Tree (network c)
  pub order : List Address
  pub finished : IsFinished (network c) (top_work c) tree order
  pub stands : StandsFor c run tree order

-- The plan that such a run shows can be printed, and is sound.
abbrev pub ShownPlansAreSound : Compiled → Scheduled → Type 0
ShownPlansAreSound c run = (plan : HPlan) → IsSoundRun c run → IsShown c run plan → IsPrintableHPlan plan × IsSoundHPlan plan

-- Its text has no fault, and spells this plan alone.
abbrev pub ShownPlansAreReadBack : Compiled → Scheduled → Type 0
ShownPlansAreReadBack c run = (plan : HPlan) → IsSoundRun c run → IsShown c run plan → IsReadAlone (hplan_text plan) plan
