-- The step of a node that is taken at the tip of a stack, by the rows of its tree.
-- Source: this project's.
use Rattle.std.specs.Prelude.{ℕ, List, [], ◌∷◌, ◌++◌, map}
use Rattle.htn_base.specs.Escapes.{slot_word}
use Rattle.plan_model.specs.declared.steps.GroundAction.{GroundAction}
use Rattle.plan_model.specs.declared.values.Compiled.{Compiled}
use Rattle.plan_model.specs.plan_meaning.SpelledPlan.{object_word}
use Rattle.tree_core.specs.Tables.{Row}
use Rattle.tree_core.specs.Labels.{labels}
use Rattle.tree_core.specs.Runs.{label_in}
use Rattle.slot_speller.specs.Steps.{objects_by, name_by}
use Rattle.stack_encoding.specs.StackSpelling.{cells_of}
use Rattle.stack_speller.specs.Tips.{count_at, next_tip}

module _ (c : Compiled) (rows : List (Row labels)) where
  -- the step of the node at k, where the tip is h
  abbrev pub step_at : (h k : ℕ) → GroundAction
  step_at h k = record {
    name = name_by c (label_in rows k);
    args = map slot_word (cells_of h (count_at c rows k)) ++ map (object_word c) (objects_by c (label_in rows k));
  }

  -- the steps of these, one after another, the first at the tip h
  abbrev pub steps_from : ℕ → List ℕ → List GroundAction
  steps_from h [] = []
  steps_from h (k ∷ ks) = step_at h k ∷ steps_from (next_tip c rows h k) ks
