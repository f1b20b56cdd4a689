-- Growths whose children come in another order than their numbers, their tree as a table, and the places of their nodes.
use Rattle.std.proofs.Common.{◌≡◌, [], ◌∷◌, Some, None, refl}
use Rattle.plan_model.specs.task_networks.Tree.{Tree, done, split, none, more, ran, used}
use Rattle.plan_model.specs.task_networks.Preorder.{preorder}
use Rattle.plan_model.specs.plan_meaning.Network.{action, check, task}
use Rattle.tree_core.specs.Tables.{table}
use Rattle.tree_core.specs.Labels.{labels, Decomposition}
use Rattle.tree_core.specs.Runs.{AreAt}

abbrev top : Decomposition
top = record { head = task 1 []; method = record { number = 0; values = [] } }

abbrev below : Decomposition
below = record { head = task 0 (4 ∷ []); method = record { number = 2; values = 4 ∷ [] } }

-- the check of the lower method comes before its action, and an action of the top method between them
abbrev tree : Tree labels
tree = split top (more (split below (more (done (check 2 (4 ∷ []))) (more (done (action 3 (4 ∷ []))) none))) (more (done (action 5 [])) none))

nodes : preorder labels tree ≡ [] ∷ (0 ∷ []) ∷ (0 ∷ 0 ∷ []) ∷ (1 ∷ 0 ∷ []) ∷ (1 ∷ []) ∷ []
nodes = refl

rows : table labels tree ≡
    record { label = used top; parent = None; number = 0; end = 5 }
    ∷ record { label = used below; parent = Some 0; number = 0; end = 4 }
    ∷ record { label = ran (check 2 (4 ∷ [])); parent = Some 1; number = 0; end = 3 }
    ∷ record { label = ran (action 3 (4 ∷ [])); parent = Some 1; number = 1; end = 4 }
    ∷ record { label = ran (action 5 []); parent = Some 0; number = 1; end = 5 }
    ∷ []
rows = refl

-- an order of the nodes, and their places
places : AreAt (preorder labels tree) (0 ∷ 1 ∷ 2 ∷ 4 ∷ 3 ∷ []) ([] ∷ (0 ∷ []) ∷ (0 ∷ 0 ∷ []) ∷ (1 ∷ []) ∷ (1 ∷ 0 ∷ []) ∷ [])
places = (refl, (refl, (refl, (refl, (refl, tt)))))
