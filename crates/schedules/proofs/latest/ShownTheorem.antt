-- The laws of what is shown, put together.
use Rattle.std.proofs.Common.{ℕ, ◌≡◌, List, filter, sym, subst}
use Rattle.plan_model.specs.task_networks.Net.{Net}
use Rattle.plan_model.specs.task_networks.Tree.{Tree, Address}
use Rattle.plan_model.specs.task_networks.Front.{IsFinished}
use Rattle.plan_model.specs.task_networks.Listed.{is_listed}
use Rattle.schedules.specs.latest.Gaps.{IsPlaced}
use Rattle.schedules.specs.latest.Laws.{IsDecided}
use Rattle.schedules.specs.latest.PlanLines.{PlanLines}
use Rattle.schedules.specs.latest.Shown.{PlanWords, AreTelling, Shows, IsTreeFor, step_nodes}
use Rattle.schedules.specs.latest.ShownLaws.{IsInOrder, IsShown, ShownExactlyWhereInOrder, StepsArePlan, TreesAreAlike, ShownExactlyWhereLatest, LatestIsShown}
use Rattle.schedules.proofs.latest.ShownTrees.{shows_exactly, steps_are_plan}
use Rattle.schedules.proofs.latest.SameTrees.{alike, same_step_nodes}
use Rattle.schedules.proofs.latest.Theorem.{exactly, placed}

module _ (N : Net) (W : PlanWords N) (top : N.Work) where
  pub in_order : ShownExactlyWhereInOrder N W top
  in_order tree order plan f = shows_exactly N W tree f.front.grown f.no_leaves order f.front.schedule plan

  pub steps : StepsArePlan N W top
  steps tree plan node t = steps_are_plan N W tree plan node t.of_plan t.no_leaves

  pub alike_trees : AreTelling N W top → TreesAreAlike N W top
  alike_trees told plan tree other node another t o = alike N W top told plan tree other node another t o

  -- the same nodes in every tree of the plan, so the order is that of these
  pub shown_in_order : AreTelling N W top → (plan : PlanLines ℕ W.Step W.Split) (tree : Tree N) (node : ℕ → Address)
      → IsTreeFor N W top plan tree node → (order : List Address) → IsFinished N top tree order → Shows N W tree plan order
      → IsInOrder N W top plan node order
  shown_in_order told plan tree node t order f s =
      let (another, o, e) = (in_order tree order plan f).0 s in
      let r : IsTreeFor N W top plan tree another = record { grown = t.grown; root = t.root; no_leaves = t.no_leaves; of_plan = o } in
      subst (λ z. filter (is_listed z) order ≡ z) (sym (same_step_nodes N W top told plan tree tree node another t r)) e

  module _ (Allowed : Address → ℕ → Type 0) where
    pub latest_shown : LatestIsShown N W top Allowed
    latest_shown plan tree node order t l =
        let p = (placed N Allowed tree (step_nodes N W node plan) l.gap order (steps tree plan node t) l.latest.is l.schedule).0 in
        record {
          finished = record { front = record { grown = t.grown; root = t.root; schedule = p.schedule }; no_leaves = t.no_leaves };
          shows = (shows_exactly N W tree t.grown t.no_leaves order p.schedule plan).1 (node, t.of_plan, p.primitives);
          allowed = p.allowed;
        }

    pub shown_is_placed : AreTelling N W top → (plan : PlanLines ℕ W.Step W.Split) (tree : Tree N) (node : ℕ → Address)
        → IsTreeFor N W top plan tree node → (order : List Address) → IsShown N W top Allowed plan tree node order
        → IsPlaced N tree (step_nodes N W node plan) Allowed order
    shown_is_placed told plan tree node t order h =
        record { schedule = h.finished.front.schedule; primitives = shown_in_order told plan tree node t order h.finished h.shows; allowed = h.allowed }

    pub shown_latest : AreTelling N W top → IsDecided N Allowed → ShownExactlyWhereLatest N W top Allowed
    shown_latest told d plan tree node t = (
      λ x. (exactly N Allowed d tree (step_nodes N W node plan) (steps tree plan node t)).0 (x.0, shown_is_placed told plan tree node t x.0 x.1),
      λ x. (x.0, latest_shown plan tree node x.0 t x.1),
    )
