-- The growths of which a tree with other values is made: each stands where the row of its address stands, with a new label.
-- Source: this project's.
use Rattle.std.specs.Prelude.{ℕ, ◌≡◌, ◌+◌, cond, List, [], length, Some, slice_get, slice_index_or}
use Rattle.std.specs.Option.{unwrap_or}
use Rattle.plan_model.specs.declared.values.Compiled.{Compiled}
use Rattle.plan_model.specs.task_networks.Tree as Trees
use Rattle.plan_model.specs.task_networks.Tree.{waits, ran, used}
use Rattle.tree_core.specs.declared.label.Label.{Label}
use Rattle.tree_core.specs.declared.growth.Growth as Grown
use Rattle.tree_core.specs.Tables.{Row}
use Rattle.tree_core.specs.Labels.{labels, label_of}
use Rattle.tree_core.specs.Runs.{label_in, parent_in, number_in}
use Rattle.plan_encoder.specs.ChosenValues.{with_values, is_checked_by, rechecked}

-- the values at an address
abbrev pub values_in : List (List ℕ) → ℕ → List ℕ
values_in list address = slice_index_or list address []

module _ (c : Compiled) where
  -- where the node stands that asks for the values of this method at an address: its check is its first child
  abbrev pub asking_from : ℕ → ℕ → ℕ
  asking_from method address = cond (is_checked_by c (slice_get c.methods method)) (address + 1) address

  module _ (list : List (List ℕ)) where
    -- the label at an address, with the values at the address of the node that asks for them
    abbrev pub new_label : ℕ → Trees.Label labels → Trees.Label labels
    new_label address (waits w) = waits w
    new_label address (ran w) = ran (rechecked (values_in list address) w)
    new_label address (used d) = used (record {
      head = d.head;
      method = with_values d.method (values_in list (asking_from d.method.number address));
    })

    -- a label has these values already, and is no open leaf's
    abbrev pub IsKept : ℕ → Trees.Label labels → Type 0
    IsKept address label = (old : Label) × (label ≡ label_of old) × (new_label address (label_of old) ≡ label_of old)

    -- each label does
    abbrev pub HasValues : List (Row labels) → Type 0
    HasValues rows = (address : ℕ) (label : Trees.Label labels) → label_in rows address ≡ Some label → IsKept address label

    module _ (rows : List (Row labels)) where
      -- the growth of the node at an address, where a label stands
      pub record IsGrowthAt (address : ℕ) (growth : Grown.Growth) : Type 0 where
        pub old : Label
        pub was : label_in rows address ≡ Some (label_of old)
        pub label : label_of growth.label ≡ new_label address (label_of old)
        pub parent : growth.parent ≡ parent_in rows address
        pub child : growth.child ≡ unwrap_or (number_in rows address) 0

      -- the growths of the nodes before an address, in preorder
      pub record AreGrowthsBefore (address : ℕ) (growths : List Grown.Growth) : Type 0 where
        pub many : length growths ≡ address
        pub each : (k : ℕ) (growth : Grown.Growth) → slice_get growths k ≡ Some growth → IsGrowthAt k growth
