use Rattle.std.proofs.Common.{◌+◌, ap, sym, subst, ◌∙◌}
use Rattle.std.specs.Option.{unwrap_or}
use Rattle.tree_core.specs.declared.growth.Growth.{Growth}
use Rattle.tree_core.specs.Labels.{label_of, growths_of}
use Rattle.tree_core.specs.Runs.{IsRefused}
use Rattle.chosen_trees.specs.ChosenTrees.{IsChosenTree}
use Rattle.chosen_trees.specs.Growing.{AreGrowthsBefore}
use Rattle.chosen_trees.proofs.ChosenRows.{one_more, label_within, grown_is_chosen, unjoined_is_chosen}
use Rattle.chosen_trees.proofs.choosing.grown.Goals as goal

pub loop-label-preserved : goal.loop-label-preserved
loop-label-preserved c =
    let compiled = c.args.c.now in
    let list = c.args.values.now in
    let rows = c.args.tree.now in
    let n = c.loop-label.address in
    let gs = c.loop-label.growths in
    let old = c.in-Some.label.now in
    let g : Growth = record { parent = c.parent.result; child = c.unwrap_or.result; label = c.in_ok-label_with.field-0 } in
    record {
      within = label_within compiled list rows n (label_of old) c.in-Some.ensures.label;
      growths = subst (AreGrowthsBefore compiled list rows (n + 1)) (sym c.in_ok-push.ensures.pushed)
          (one_more compiled list rows n gs g c.loop-label.invariant.growths (record {
            old = old;
            was = sym c.in-Some.ensures.label;
            label = c.in_ok-label_with.ensures.label;
            parent = c.parent.ensures.parent;
            child = c.unwrap_or.ensures ∙ ap (λ o. unwrap_or o 0) c.number.ensures.number;
          }));
    }

pub returns-in-Ok : goal.returns-in-Ok
returns-in-Ok c = record {
  tree = subst (IsChosenTree c.args.c.now c.args.tree.now c.args.values.now) (sym c.into_tree.ensures.tree)
      (grown_is_chosen c.args.c.now c.args.values.now c.args.tree.now c.requires.soundly c.loop-label.address c.loop-label.growths
      c.loop-label.invariant.growths c.loop-label.invariant.within c.in_default.ensures.label c.in-Ok.run' c.in-Ok.ensures.tree);
}

pub returns-in-Err-Unjoined : goal.returns-in-Err-Unjoined
returns-in-Err-Unjoined c = record {
  tree = unjoined_is_chosen c.args.c.now c.args.values.now c.args.tree.now c.requires.soundly c.loop-label.address c.loop-label.growths
      c.loop-label.invariant.growths c.loop-label.invariant.within c.in_default.ensures.label c.in-Err-Unjoined.field-0-0
      (subst (IsRefused (growths_of c.loop-label.growths)) c.in-Err-Unjoined.field-0-is c.in-Err-Unjoined.ensures.unjoined) c.copy.result;
}
