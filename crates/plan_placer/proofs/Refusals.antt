-- Why a plan is not placed, told from why its lines are not fitted, and from why its actions are not executed.
use Rattle.std.proofs.Common.{ℕ, ◌≡◌, ◌+◌, ◌≤◌, List, length, slice_get, Option, Some, None, option_map, sym, subst, ap, ◌∙◌, arith}
use Rattle.htn_base.specs.Limits.{most_lines}
use Rattle.plan_texts.proofs.Together.{together-length}
use Rattle.plan_model.specs.declared.values.Compiled.{Compiled}
use Rattle.plan_model.specs.task_networks.Tree.{Tree, Label, Address}
use Rattle.plan_model.specs.plan_meaning.Network.{network, action}
use Rattle.hplan_text.specs.declared.values.HNode.{HNode}
use Rattle.hplan_text.specs.declared.values.HPlan.{HPlan}
use Rattle.hplan_text.specs.Printable.{task_ids, node_id}
use Rattle.plan_encoder.specs.Laws.{HasTree}
use Rattle.numbered_lines.specs.declared.lines.Lines.{Lines}
use Rattle.numbered_lines.specs.Numbered.{AreSaid, IsSplitOf, AreNumbered}
use Rattle.line_fits.specs.Fitted.{IsUnfitted}
use Rattle.placements.specs.Matching.{IsUnmatched}
use Rattle.plan_placer.specs.declared.place_error.PlaceError.{PlaceError}
use Rattle.plan_placer.specs.declared.place_error.PlaceError.TheVariants.{NoMatch, NotExecutable, GoalFalse, NoPlacement, Memory}
use Rattle.plan_placer.specs.Planting.{id_at}
use Rattle.plan_placer.specs.Executed.{IsStopped}
use Rattle.plan_placer.specs.Placing.{RefusesPlace}
use Rattle.plan_placer.proofs.Histories.{there}

module _ (c : Compiled) (plan : HPlan) where
  -- as many numbers as lines
  pub many_steps : (lines : Lines) → AreNumbered c plan lines → length lines.steps ≡ length plan.primitives
  many_steps lines n = sym (together-length (AreSaid c action) plan.primitives lines.steps n.steps_are)

  pub few_lines : (lines : Lines) → AreNumbered c plan lines → length plan.primitives + length plan.nodes ≤ most_lines
      → length lines.steps + length lines.splits ≤ most_lines
  few_lines lines n l =
      let a = many_steps lines n in
      let b = together-length (IsSplitOf c (task_ids plan)) plan.nodes lines.splits n.splits_are in
      omega arith

  pub unmatched : (line id : Option ℕ) → id ≡ id_at plan line → IsUnfitted c plan line → IsUnmatched c plan id
  unmatched None id e u = subst (IsUnmatched c plan) (sym e) u
  unmatched (Some k) id e (before, node, first, many) =
      subst (IsUnmatched c plan) (sym (e ∙ ap (option_map node_id) at)) (before, node, first, λ i. node.line.id)
    where
      at : slice_get plan.nodes k ≡ Some node
      at = subst (λ j. slice_get plan.nodes j ≡ Some node) many
          (subst (λ (z : List HNode). slice_get z (length before) ≡ Some node) (sym first.parts) (there before first.rest node))

  -- the plan has a tree
  module _ (tree : Tree (network c)) (node : ℕ → Address) (labels : List (Label (network c)))
      (has : HasTree c plan tree node labels) where
    pub refused : (error : PlaceError) → IsStopped c plan labels error → RefusesPlace c plan error
    refused (NoMatch id) s = absurd s
    refused (NotExecutable id) s = record {
      tree = tree;
      node = node;
      labels = labels;
      has = has;
      before = s.before;
      label = s.label;
      rest = s.rest;
      parts = s.parts;
      executable = s.executable;
      fails = s.fails;
      line = s.line;
      line_is = s.line_is;
      id_is = s.id_is;
    }
    refused GoalFalse s = record { tree = tree; node = node; labels = labels; has = has; executable = s.executable; goal = s.goal }
    refused NoPlacement s = absurd s
    refused Memory s = tt
