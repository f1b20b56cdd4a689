-- What is proved of the hierarchical plans of a compiled problem: what their words tell, when they have a tree, and when a solution shows them.
-- Source: this project's.
use Rattle.std.specs.Prelude.{ℕ, ◌≡◌, ◌↔◌, List}
use Rattle.plan_texts.specs.SoundProblem.{IsSoundProblem}
use Rattle.plan_model.specs.declared.options.Checks.{Checks}
use Rattle.plan_model.specs.declared.values.Hddl.{Hddl}
use Rattle.plan_model.specs.declared.values.Compiled.{Compiled}
use Rattle.plan_model.specs.task_networks.Tree.{Tree, Label, Address, IsAddress}
use Rattle.plan_model.specs.task_networks.Front.{IsFinished}
use Rattle.plan_model.specs.task_networks.Executable.{AreLabels, last_state}
use Rattle.plan_model.specs.plan_meaning.Compilation.{IsCompiled}
use Rattle.plan_model.specs.plan_meaning.Laws.{AreOrdered}
use Rattle.plan_model.specs.plan_meaning.Truth.{State}
use Rattle.plan_model.specs.plan_meaning.Network.{network}
use Rattle.plan_model.specs.plan_meaning.Solution.{top_work, Allows, next, initial, IsGoal, IsSolution}
use Rattle.hplan_text.specs.declared.values.HPlan.{HPlan}
use Rattle.hplan_text.specs.Printable.{IsSoundHPlan}
use Rattle.hplan_text.specs.ShownPlan.{ShowsHPlan}
use Rattle.schedules.specs.latest.Gaps.{IsGapFunction, IsLatest}
use Rattle.schedules.specs.latest.LatestSchedule.{IsScheduleOf}
use Rattle.schedules.specs.latest.Choices.{AllowedBySome, AllowedBy}
use Rattle.schedules.specs.latest.Shown.{plan_of, AreTelling, IsTreeFor, step_nodes}
use Rattle.plan_encoder.specs.Calls.{lines_of, words, ShowsUnderSomeIds}
use Rattle.plan_encoder.specs.Records.{EachFits}
use Rattle.plan_encoder.specs.ChosenValues.{chosen, chooser, MayStand}

-- compiled of a sound problem whose pairs have no cycle
pub record IsOf (h : Hddl) (mode : Checks) (c : Compiled) : Type 0 where
  pub sound : IsSoundProblem h
  pub ordered : AreOrdered h
  pub compiled : IsCompiled h mode c

module _ (c : Compiled) where
  -- what is said of a method tells its pairs and its check
  abbrev pub WordsTell : Type 0
  WordsTell = (h : Hddl) (mode : Checks) → IsOf h mode c → AreTelling (network c) (words c) (top_work c)

  -- the plan that a finished tree and its order show has the lines of the tree
  abbrev pub ShownAreLines : Type 0
  ShownAreLines = (tree : Tree (network c)) (order : List Address) (plan : HPlan) → IsFinished (network c) (top_work c) tree order
      → ShowsHPlan c tree order plan ↔ (lines_of plan ≡ plan_of (network c) (words c) tree order)

  -- the ids of the plan are the nodes of the tree, which is grown and has no open leaves
  abbrev pub IsTreeOfPlan : HPlan → Tree (network c) → (ℕ → Address) → Type 0
  IsTreeOfPlan plan tree node = IsTreeFor (network c) (words c) (top_work c) (lines_of plan) tree node

  -- a plan has a tree exactly where some method fits each of its lines
  abbrev pub TreesExactlyWhereFitting : Type 0
  TreesExactlyWhereFitting = (h : Hddl) (mode : Checks) → IsOf h mode c → (plan : HPlan) → IsSoundHPlan plan
      → ((tree : Tree (network c)) × (node : ℕ → Address) × IsTreeOfPlan plan tree node) ↔ EachFits c (lines_of plan)

  -- some solution shows the plan
  abbrev pub SomeSolutionShows : HPlan → Type 0
  SomeSolutionShows plan = (tree : Tree (network c)) × (order : List Address) × IsSolution c tree order × ShowsUnderSomeIds c plan tree order

  -- the nodes of the primitives of a plan
  abbrev pub actions : HPlan → (ℕ → Address) → List Address
  actions plan node = step_nodes (network c) (words c) node (lines_of plan)

  -- a tree of the plan, with the labels of its primitives
  pub record HasTree (plan : HPlan) (tree : Tree (network c)) (node : ℕ → Address) (labels : List (Label (network c))) : Type 0 where
    pub of_plan : IsTreeOfPlan plan tree node
    pub are_labels : AreLabels (network c) tree (actions plan node) labels

  module _ (tree : Tree (network c)) (labels : List (Label (network c))) where
    -- with some values of the method that it asks for, or with these
    abbrev pub MayStandSomehow : Address → ℕ → Type 0
    MayStandSomehow = AllowedBySome (network c) tree (List ℕ) (chosen c tree) (MayStand c tree labels) (chooser c tree)

    abbrev pub MayStandWith : (Address → List ℕ) → Address → ℕ → Type 0
    MayStandWith = AllowedBy (network c) tree (List ℕ) (chosen c tree) (MayStand c tree labels) (chooser c tree)

  -- the goal is true after the primitives
  abbrev pub GoalAfter : List (Label (network c)) → Type 0
  GoalAfter labels = IsGoal c (last_state (network c) State (Allows c) (next c) (initial c) labels)

  -- A solution shows the plan exactly where the goal is true after its primitives, and its tree has a gap function: each primitive and
  -- each check is in a gap where its condition is true, with some values of its method.
  abbrev pub SolutionsExactlyWhereGaps : Type 0
  SolutionsExactlyWhereGaps = (h : Hddl) (mode : Checks) → IsOf h mode c
      → (plan : HPlan) (tree : Tree (network c)) (node : ℕ → Address) (labels : List (Label (network c))) → HasTree plan tree node labels
      → SomeSolutionShows plan
      ↔ (GoalAfter labels × ((gap : Address → ℕ) × IsGapFunction (network c) tree (actions plan node) (MayStandSomehow tree labels) gap))

  -- and some solution shows it exactly where it has such a tree
  abbrev pub SolutionsExactlyWherePlaced : Type 0
  SolutionsExactlyWherePlaced = (h : Hddl) (mode : Checks) → IsOf h mode c → (plan : HPlan)
      → SomeSolutionShows plan
      ↔ ((tree : Tree (network c)) × (node : ℕ → Address) × (labels : List (Label (network c))) × HasTree plan tree node labels × GoalAfter labels
      × (gap : Address → ℕ) × IsGapFunction (network c) tree (actions plan node) (MayStandSomehow tree labels) gap)

  -- The schedule of the latest gap function is a solution that shows the plan, with any values with which each node may stand in its gap;
  -- and it is the latest for these values too.
  pub record IsLatestSolution (plan : HPlan) (tree : Tree (network c)) (node : ℕ → Address) (labels : List (Label (network c)))
      (gap : Address → ℕ) (values : Address → List ℕ) (order : List Address) : Type 0 where
    pub solution : IsSolution c (chosen c tree values) order
    pub shows : ShowsUnderSomeIds c plan (chosen c tree values) order
    pub latest : IsLatest (network c) (chosen c tree values) (actions plan node) (MayStandWith tree labels values) gap

  abbrev pub LatestIsSolution : Type 0
  LatestIsSolution = (h : Hddl) (mode : Checks) → IsOf h mode c
      → (plan : HPlan) (tree : Tree (network c)) (node : ℕ → Address) (labels : List (Label (network c))) → HasTree plan tree node labels
      → GoalAfter labels → (gap : Address → ℕ) (values : Address → List ℕ) (order : List Address)
      → IsLatest (network c) tree (actions plan node) (MayStandSomehow tree labels) gap
      → ((p : Address) → IsAddress (network c) tree p → MayStandWith tree labels values p (gap p))
      → IsScheduleOf (network c) (chosen c tree values) (actions plan node) gap order
      → IsLatestSolution plan tree node labels gap values order
