use Rattle.chosen_trees.proofs.ChosenRows.{kept_is_chosen}
use Rattle.chosen_trees.proofs.choosing.with_values.Goals as goal

pub returns-then-has_values : goal.returns-then-has_values
returns-then-has_values c = record {
  tree = kept_is_chosen c.args.c.now c.args.values.now c.args.tree c.requires.soundly (c.has_values.ensures c.if-has_values.true);
}
