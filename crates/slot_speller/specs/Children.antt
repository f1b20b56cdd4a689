-- Where the children of a node stand among the rows of a tree, and what decomposes it.
-- Source: this project's.
use Rattle.std.specs.Prelude.{ℕ, zero, suc, ◌+◌, List, Option, Some, None, slice_get}
use Rattle.std.specs.Option.{unwrap_or}
use Rattle.plan_model.specs.declared.schemas.MethodPlan.{MethodPlan}
use Rattle.plan_model.specs.declared.values.Compiled.{Compiled}
use Rattle.plan_model.specs.task_networks.Tree.{Label, waits, ran, used}
use Rattle.tree_core.specs.Tables.{Row}
use Rattle.tree_core.specs.Labels.{labels}
use Rattle.tree_core.specs.Runs.{end_in}

-- the place after a subtree
abbrev pub after_in : List (Row labels) → ℕ → ℕ
after_in rows k = unwrap_or (end_in rows k) k

-- the place of child i of the node at k: the first comes right behind its parent, each further one after the subtree of that before it
abbrev pub child_in : List (Row labels) → ℕ → ℕ → ℕ
child_in rows k zero = k + 1
child_in rows k (suc i) = after_in rows (child_in rows k i)

-- the method by which a node with this label is decomposed
abbrev pub plan_by : Compiled → Option (Label labels) → Option MethodPlan
plan_by c None = None
plan_by c (Some (waits w)) = None
plan_by c (Some (ran w)) = None
plan_by c (Some (used d)) = slice_get c.methods d.method.number
