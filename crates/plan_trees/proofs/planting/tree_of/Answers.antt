use Rattle.std.proofs.Common.{◌∙◌, ap, sym, subst, length, map}
use Rattle.tree_core.specs.Labels.{growths_of}
use Rattle.tree_core.specs.Runs.{IsRun, IsRefused}
use Rattle.plan_trees.specs.Sources.{growth}
use Rattle.plan_trees.specs.Actions.{AreActions}
use Rattle.plan_trees.specs.PlanTrees.{IsPlanTreeOf}
use Rattle.plan_trees.proofs.Joined.{never_unjoined}
use Rattle.plan_trees.proofs.Planted.{as_many_as, is_plan_tree}
use Rattle.plan_trees.proofs.planting.tree_of.Goals as goal
use Rattle.plan_trees.proofs.planting.tree_of.Goals.{In-Ok}

-- the run grows by the growths of the seeds
run_is : (c : In-Ok) → IsRun (growths_of (map (growth c.args.c.now c.args.lines.now c.args.fits.now) c.in_ok-seeds.seeds)) c.in-Ok.run'
run_is c =
    let e = c.in_ok-growths.ensures ∙ ap (map (growth c.args.c.now c.args.lines.now c.args.fits.now)) c.as_slice.ensures.items in
    subst (λ z. IsRun (growths_of z) c.in-Ok.run') e c.in-Ok.ensures.tree

pub actions_of-requires : goal.actions_of-requires
actions_of-requires c = record {
  many = ap length c.as_slice-order.ensures.items
      ∙ as_many_as c.args.c.now c.args.lines.now c.args.fits.now c.in_ok-seeds.seeds c.in-Ok.run' (run_is (goal.at.actions_of-requires c).In-Ok)
      ∙ ap length (sym c.as_slice-2.ensures.items);
}

pub returns : goal.returns
returns c = record {
  tree =
      let cv = c.args.c.now in
      let seeds = c.in_ok-seeds.seeds in
      let run = c.in-Ok.run' in
      let acts = subst (λ z. AreActions z run.order (length c.args.lines.now.steps) c.in_ok-actions.actions) c.as_slice-2.ensures.items
      (subst (λ z. AreActions c.as_slice-2.result.now z (length c.args.lines.now.steps) c.in_ok-actions.actions) c.as_slice-order.ensures.items
      (subst (λ z. AreActions c.as_slice-2.result.now c.as_slice-order.result.now z c.in_ok-actions.actions) c.len.ensures.length c.in_ok-actions.ensures)) in
      subst (λ z. IsPlanTreeOf cv c.args.lines.now c.args.fits.now (record { tree = z; actions = c.in_ok-actions.actions })) (sym c.into_tree.ensures.tree)
      (is_plan_tree cv c.args.lines.now c.args.fits.now c.requires.soundly seeds c.in_ok-seeds.ensures.few c.in_ok-seeds.ensures.seeds run
      (run_is (goal.at.returns c).In-Ok) c.in_ok-actions.actions acts);
}

-- the growths are joined
pub unreachable-requires : goal.unreachable-requires
unreachable-requires c =
    never_unjoined c.args.c.now c.args.lines.now c.args.fits.now c.in_ok-seeds.seeds c.in_ok-growths.growths c.in-Err-Unjoined.field-0-0
    c.in_ok-seeds.ensures.joined
    (c.in_ok-growths.ensures ∙ ap (map (growth c.args.c.now c.args.lines.now c.args.fits.now)) c.as_slice.ensures.items)
    (subst (IsRefused (growths_of c.in_ok-growths.growths)) c.in-Err-Unjoined.field-0-is c.in-Err-Unjoined.ensures.unjoined)
