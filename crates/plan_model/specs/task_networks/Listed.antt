-- Whether a node stands in a list of nodes, computed.
-- Source: this project's.
use Rattle.std.specs.Prelude.{List, [], ◌∷◌, Bool, true, false, ◌&&◌, ◌==◌}
use Rattle.std.specs.List.{list_any}
use Rattle.plan_model.specs.task_networks.Tree.{Address}

abbrev pub same_address : Address → Address → Bool
same_address [] [] = true
same_address (i ∷ p) (j ∷ q) = (i == j) && same_address p q
same_address [] (j ∷ q) = false
same_address (i ∷ p) [] = false

abbrev pub is_listed : List Address → Address → Bool
is_listed nodes p = list_any (same_address p) nodes
