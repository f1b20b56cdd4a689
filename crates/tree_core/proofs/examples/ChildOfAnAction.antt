-- Growths without any of the defects that come from places and child numbers, which have no tree: a child under an action.
use Rattle.std.proofs.Common.{◌≡◌, List, [], ◌∷◌, Some, None, refl}
use Rattle.plan_model.specs.task_networks.Net.{one_action}
use Rattle.plan_model.specs.task_networks.Tree.{Tree, ran, Address}
use Rattle.tree_core.specs.Growths.{Growth, IsTreeOf}
use Rattle.tree_core.proofs.Joined.{joined}

root : Growth one_action
root = record { parent = None; child = 0; label = ran tt }

below : Growth one_action
below = record { parent = Some 0; child = 0; label = ran tt }

two : List (Growth one_action)
unfolding root below
two = root ∷ below ∷ []

-- the first has no parent, and the later one has one before it
parents : (root.parent ≡ None) × (below.parent ≡ Some 0)
unfolding root below
parents = (refl, refl)

-- no child number stands twice, and none is left out
numbers : below.child ≡ 0
unfolding below
numbers = refl

-- there is no tree
no_tree : (tree : Tree one_action) (order : List Address) → IsTreeOf one_action two tree order → ⊥
unfolding two root below
no_tree tree order s = let (m, e) = (joined one_action two tree order s).decomposed 1 0 below root refl refl refl in m
