use Rattle.std.proofs.Common.{List, subst, ◌∙◌}
use Rattle.tree_core.specs.Tables.{Row}
use Rattle.tree_core.specs.Labels.{labels}
use Rattle.chosen_trees.specs.ChosenTrees.{IsChosenTree}
use Rattle.plan_placer.proofs.Scheduled.{found_run}
use Rattle.plan_placer.proofs.scheduling.with_first.Goals as goal

pub returns : goal.returns
returns c history found plan r = found_run c.args.c.now c.requires.soundly plan c.args.planted history r c.args.stands.now found
    c.as_slice.result.now c.as_slice-3.result.now c.as_slice-2.result.now c.as_slice.ensures.items c.as_slice-3.ensures.items
    (c.as_slice-2.ensures.items ∙ c.into_parts-tree.ensures.actions) (record { tree = c.in_ok-tree.tree; order = c.in_ok-order.order })
    (subst (λ (z : List (Row labels)). IsChosenTree c.args.c.now z c.as_slice.result.now c.in_ok-tree.tree) c.into_parts-tree.ensures.tree
    c.in_ok-tree.ensures.tree) c.in_ok-order.ensures.order
