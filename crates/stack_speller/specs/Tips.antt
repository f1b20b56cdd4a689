-- The cells of the nodes of a run, which are taken one after another: each at the tip of a stack.
-- Source: this project's. A stack of tasks, as in LL parsing; the cells are those of `AreCells`.
use Rattle.std.specs.Prelude.{ℕ, ◌+◌, ◌-◌, List, [], ◌∷◌, length, max, Option, Some, None}
use Rattle.plan_model.specs.declared.schemas.MethodPlan.{MethodPlan}
use Rattle.plan_model.specs.declared.values.Compiled.{Compiled}
use Rattle.tree_core.specs.Tables.{Row}
use Rattle.tree_core.specs.Labels.{labels}
use Rattle.tree_core.specs.Runs.{label_in}
use Rattle.slot_speller.specs.Children.{plan_by}

-- how many come in the place of a node that is decomposed so, or not at all
abbrev pub count_by : Option MethodPlan → ℕ
count_by None = 0
count_by (Some plan) = length plan.schema.children

module _ (c : Compiled) (rows : List (Row labels)) where
  -- how many come in the place of the node at k
  abbrev pub count_at : ℕ → ℕ
  count_at k = count_by (plan_by c (label_in rows k))

  -- the tip when the node at k is taken, which was at the tip h
  abbrev pub next_tip : (h k : ℕ) → ℕ
  next_tip h k = (h - 1) + count_at k

  -- the tip when all these are taken, one after another, the first at h
  abbrev pub tip_after : ℕ → List ℕ → ℕ
  tip_after h [] = h
  tip_after h (k ∷ ks) = tip_after (next_tip h k) ks

  -- their cells
  abbrev pub cells_from : ℕ → List ℕ → List ℕ
  cells_from h [] = []
  cells_from h (k ∷ ks) = h ∷ cells_from (next_tip h k) ks

-- the greatest of these, or 0 of none
abbrev pub greatest : List ℕ → ℕ
greatest [] = 0
greatest (x ∷ xs) = max x (greatest xs)
