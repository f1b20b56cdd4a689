-- The list of what is pending, computed: that it has the pending nodes, and each once, is a law.
-- Source: this project's.
use Rattle.std.specs.Prelude.{List, [], ◌∷◌, filter, Bool, not, ◌&&◌}
use Rattle.plan_model.specs.task_networks.Net.{Net}
use Rattle.plan_model.specs.task_networks.Tree.{Tree, Address}
use Rattle.plan_model.specs.task_networks.Listed.{is_listed}
use Rattle.plan_model.specs.task_networks.Preorder.{preorder}

abbrev pub is_pending : List Address → Address → Bool
is_pending taken [] = not (is_listed taken [])
is_pending taken (i ∷ p) = is_listed taken p && not (is_listed taken (i ∷ p))

-- all pending nodes
abbrev pub pending : (N : Net) → Tree N → List Address → List Address
pending N tree taken = filter (is_pending taken) (preorder N tree)
