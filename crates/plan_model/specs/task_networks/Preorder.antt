-- The nodes of a tree in preorder: each before those below it, and those below a child before those below the next.
-- Source: this project's.
use Rattle.std.specs.Prelude.{ℕ, suc, List, [], ◌∷◌, ◌++◌}
use Rattle.plan_model.specs.task_networks.Net.{Net}
use Rattle.plan_model.specs.task_networks.Tree.{Tree, Trees, open_leaf, done, split, none, more, Address}

module _ (N : Net) where
  abbrev mutual
    -- the nodes of a tree that stands at p, and of trees that are its children from number i on
    pub nodes_at : Address → Tree N → List Address
    nodes_at p (open_leaf w) = p ∷ []
    nodes_at p (done w) = p ∷ []
    nodes_at p (split m ts) = p ∷ nodes_from p 0 ts

    pub nodes_from : Address → ℕ → Trees N → List Address
    nodes_from p i none = []
    nodes_from p i (more t ts) = nodes_at (i ∷ p) t ++ nodes_from p (suc i) ts

  abbrev pub preorder : Tree N → List Address
  preorder tree = nodes_at [] tree
