use Rattle.plan_trees.specs.Actions.{AreActionsOf}
use Rattle.plan_trees.proofs.actions.actions_of.Given as goal

abbrev pub invariant-loop-place : goal.invariant-loop-place
invariant-loop-place l = AreActionsOf l.seeds l.order l.primitives l.place l.actions.items
