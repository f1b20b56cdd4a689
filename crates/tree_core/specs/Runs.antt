-- Trees with an order of their nodes, by rows and places: the tree that grows, and the tree of a compiled problem for which they stand.
-- Source: this project's.
use Rattle.std.specs.Prelude.{ℕ, ◌≡◌, List, [], ◌∷◌, Option, Some, option_map, slice_get}
use Rattle.std.specs.Option.{option_and_then}
use Rattle.plan_model.specs.task_networks.Tree.{Tree, Label, Address}
use Rattle.plan_model.specs.task_networks.Preorder.{preorder}
use Rattle.plan_model.specs.declared.values.Compiled.{Compiled}
use Rattle.plan_model.specs.plan_meaning.Network.{network}
use Rattle.tree_core.specs.declared.growth.Scheduled.{Scheduled}
use Rattle.tree_core.specs.declared.growth.GrowError.{GrowError}
use Rattle.tree_core.specs.declared.growth.GrowError.TheVariants.{Unjoined, Memory}
use Rattle.tree_core.specs.Tables.{Row, table}
use Rattle.tree_core.specs.Growths.{Growth, IsTreeOf, IsUnjoined}
use Rattle.tree_core.specs.Labels.{labels, labelled}

-- what the row at a place says
module _ (rows : List (Row labels)) where
  abbrev pub label_in : ℕ → Option (Label labels)
  label_in k = option_map (λ (r : Row labels). r.label) (slice_get rows k)

  abbrev pub parent_in : ℕ → Option ℕ
  parent_in k = option_and_then (λ (r : Row labels). r.parent) (slice_get rows k)

  -- the child number; the root has none
  abbrev pub number_in : ℕ → Option ℕ
  number_in k = option_and_then (λ (r : Row labels). option_map (λ x. r.number) r.parent) (slice_get rows k)

  abbrev pub end_in : ℕ → Option ℕ
  end_in k = option_map (λ (r : Row labels). r.end) (slice_get rows k)

-- these nodes stand at these places
abbrev pub AreAt : List Address → List ℕ → List Address → Type 0
AreAt nodes [] [] = Unit {0}
AreAt nodes (k ∷ ks) (p ∷ ps) = (slice_get nodes k ≡ Some p) × AreAt nodes ks ps
AreAt nodes [] (p ∷ ps) = ⊥
AreAt nodes (k ∷ ks) [] = ⊥

-- the one tree with these growths, and the places of their nodes in order
pub record IsRun (growths : List (Growth labels)) (run : Scheduled) : Type 0 where
  pub tree : Tree labels
  pub order : List Address
  pub grown : IsTreeOf labels growths tree order
  pub rows : run.tree ≡ table labels tree
  pub places : AreAt (preorder labels tree) run.order order

-- the growths have no tree, and this is the first place at which something is wrong; or there was no memory
abbrev pub IsRefused : List (Growth labels) → GrowError → Type 0
IsRefused growths (Unjoined k) = IsUnjoined labels growths k
IsRefused growths Memory = Unit {0}

-- the run stands for this tree of the compiled problem's network, and for this order of its nodes
pub record StandsFor (c : Compiled) (run : Scheduled) (tree : Tree (network c)) (order : List Address) : Type 0 where
  pub rows : run.tree ≡ table labels (labelled c tree)
  pub places : AreAt (preorder (network c) tree) run.order order
