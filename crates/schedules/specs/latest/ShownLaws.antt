-- What is proved of trees and schedules that show a plan, over every network.
-- Source: this project's.
use Rattle.std.specs.Prelude.{ℕ, ◌≡◌, ◌↔◌, List, filter, Some, Contains}
use Rattle.plan_model.specs.task_networks.Net.{Net}
use Rattle.plan_model.specs.task_networks.Tree.{Tree, Label, Address, label_at, IsAddress}
use Rattle.plan_model.specs.task_networks.Front.{IsFinished}
use Rattle.plan_model.specs.task_networks.Listed.{is_listed}
use Rattle.schedules.specs.latest.Gaps.{IsPlanOf, gap_in}
use Rattle.schedules.specs.latest.Execution.{IsSameShape}
use Rattle.schedules.specs.latest.LatestSchedule.{IsLatestSchedule}
use Rattle.schedules.specs.latest.PlanLines.{PlanLines, line_ids}
use Rattle.schedules.specs.latest.Shown.{PlanWords, SaysTheSame, Shows, IsTreeOf, IsTreeFor, step_nodes}

module _ (N : Net) (W : PlanWords N) (top : N.Work) where
  -- the actions stand in the order in the order of their lines
  abbrev pub IsInOrder : PlanLines ℕ W.Step W.Split → (ℕ → Address) → List Address → Type 0
  IsInOrder plan node order = filter (is_listed (step_nodes N W node plan)) order ≡ step_nodes N W node plan

  -- a finished tree with a schedule shows a plan exactly where the plan's ids are its nodes, with the actions in order
  abbrev pub ShownExactlyWhereInOrder : Type 0
  ShownExactlyWhereInOrder = (tree : Tree N) (order : List Address) (plan : PlanLines ℕ W.Step W.Split) → IsFinished N top tree order
      → Shows N W tree plan order ↔ ((node : ℕ → Address) × IsTreeOf N W tree plan node × IsInOrder plan node order)

  -- the nodes of the lines of actions are what gap functions ask for
  abbrev pub StepsArePlan : Type 0
  StepsArePlan = (tree : Tree N) (plan : PlanLines ℕ W.Step W.Split) (node : ℕ → Address) → IsTreeFor N W top plan tree node
      → IsPlanOf N tree (step_nodes N W node plan)

  -- two trees with nodes for the ids of a plan: one shape, the same said of each node, and each line at one node
  pub record AreToldAlike (plan : PlanLines ℕ W.Step W.Split) (tree other : Tree N) (node another : ℕ → Address) : Type 0 where
    pub shape : IsSameShape N tree other
    pub said : (p : Address) (k l : Label N) → label_at N tree p ≡ Some k → label_at N other p ≡ Some l → SaysTheSame N W k l
    pub nodes : (i : ℕ) → Contains (line_ids plan) i → another i ≡ node i

  -- all trees of a plan are alike
  abbrev pub TreesAreAlike : Type 0
  TreesAreAlike = (plan : PlanLines ℕ W.Step W.Split) (tree other : Tree N) (node another : ℕ → Address)
      → IsTreeFor N W top plan tree node → IsTreeFor N W top plan other another → AreToldAlike plan tree other node another

  module _ (Allowed : Address → ℕ → Type 0) where
    -- finished, shows the plan, and each node is in an allowed gap
    pub record IsShown (plan : PlanLines ℕ W.Step W.Split) (tree : Tree N) (node : ℕ → Address) (order : List Address) : Type 0 where
      pub finished : IsFinished N top tree order
      pub shows : Shows N W tree plan order
      pub allowed : (p : Address) → IsAddress N tree p → Allowed p (gap_in N tree (step_nodes N W node plan) order p)

    -- where some schedule does so, the latest one does; else there is none
    abbrev pub ShownExactlyWhereLatest : Type 0
    ShownExactlyWhereLatest = (plan : PlanLines ℕ W.Step W.Split) (tree : Tree N) (node : ℕ → Address) → IsTreeFor N W top plan tree node
        → ((order : List Address) × IsShown plan tree node order)
        ↔ ((order : List Address) × IsLatestSchedule N tree (step_nodes N W node plan) Allowed order)

    abbrev pub LatestIsShown : Type 0
    LatestIsShown = (plan : PlanLines ℕ W.Step W.Split) (tree : Tree N) (node : ℕ → Address) (order : List Address)
        → IsTreeFor N W top plan tree node
        → IsLatestSchedule N tree (step_nodes N W node plan) Allowed order → IsShown plan tree node order
