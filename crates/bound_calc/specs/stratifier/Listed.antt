-- All edges as a list: method by method, child by child.
use Rattle.std.specs.Prelude.{ℕ, suc, ◌≡◌, List, [], ◌∷◌, ◌++◌, map}
use Rattle.plan_model.specs.declared.networks.Head.{Head}
use Rattle.plan_model.specs.declared.networks.Head.TheVariants.{Task, Action, Check}
use Rattle.plan_model.specs.declared.networks.Child.{Child}
use Rattle.plan_model.specs.plan_meaning.Strata.{Edge}
use Rattle.bound_calc.specs.declared.stratifier.edge.Edge as Declared

-- an edge as the definitions have it
abbrev pub edge_of : Declared.Edge → Edge
edge_of e = record { method = e.method; child = e.child }

abbrev pub edges_to : ℕ → ℕ → Head → List Edge
edges_to m i (Task t) = record { method = m; child = i } ∷ []
edges_to m i (Action a) = []
edges_to m i Check = []

-- the edges of method m to its children, from number i on
abbrev pub edges_from : ℕ → ℕ → List Child → List Edge
edges_from m i [] = []
edges_from m i (child ∷ rest) = edges_to m i child.head ++ edges_from m (suc i) rest

-- the edges of method m to its children are put at the end
abbrev pub AreAdded : ℕ → List Child → List Declared.Edge → List Declared.Edge → Type 0
AreAdded m children old new = map edge_of new ≡ map edge_of old ++ edges_from m 0 children
