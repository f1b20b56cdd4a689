-- The tree of a plan with the ground methods that fit its lines, as a table.
-- Source: this project's.
use Rattle.std.specs.Prelude.{ℕ, ◌≡◌, ◌≤◌, length}
use Rattle.htn_base.specs.Limits.{most_steps}
use Rattle.plan_model.specs.declared.values.Compiled.{Compiled}
use Rattle.plan_model.specs.task_networks.Tree.{Tree, Address}
use Rattle.plan_model.specs.task_networks.Preorder.{preorder}
use Rattle.plan_model.specs.plan_meaning.Network.{network}
use Rattle.hplan_text.specs.declared.values.HPlan.{HPlan}
use Rattle.tree_core.specs.Tables.{table}
use Rattle.tree_core.specs.Labels.{labels, labelled}
use Rattle.tree_core.specs.Runs.{AreAt}
use Rattle.plan_encoder.specs.Laws.{IsTreeOfPlan, actions}
use Rattle.numbered_lines.specs.declared.lines.Lines.{Lines}
use Rattle.line_fits.specs.declared.fitted.Fits.{Fits}
use Rattle.line_fits.specs.Fitted.{ForPlans, AreFits}
use Rattle.plan_trees.specs.declared.plan_tree.PlanTree.{PlanTree}

-- the rows are those of a tree of the plan, of which there are few, and the addresses are those of its primitives, in the order of their lines
pub record IsPlanTree (c : Compiled) (plan : HPlan) (made : PlanTree) : Type 0 where
  pub tree : Tree (network c)
  pub node : ℕ → Address
  pub of_plan : IsTreeOfPlan c plan tree node
  pub rows : made.tree ≡ table labels (labelled c tree)
  pub few : length made.tree ≤ most_steps
  pub actions_are : AreAt (preorder (network c) tree) made.actions (actions c plan node)

-- of each plan with these lines, which these methods fit
abbrev pub IsPlanTreeOf : Compiled → Lines → Fits → PlanTree → Type 0
IsPlanTreeOf c lines fits made = ForPlans c lines (λ plan. AreFits c plan fits → IsPlanTree c plan made)
