-- The rows of a compiled problem's tree: where children stand, and which nodes have none.
use Rattle.std.proofs.Common.{ℕ, zero, suc, ◌≡◌, ◌+◌, ◌<◌, List, ◌∷◌, Option, Some, None, option_map, slice_get, ap, sym, subst}
use Rattle.std.proofs.Common.{◌∙◌, arith}
use Rattle.std.specs.Option.{option_and_then, unwrap_or}
use Rattle.plan_model.specs.declared.schemas.MethodPlan.{MethodPlan}
use Rattle.plan_model.specs.declared.values.Compiled.{Compiled}
use Rattle.plan_model.specs.task_networks.Net.{count}
use Rattle.plan_model.specs.task_networks.Lawful.{IsLawful}
use Rattle.plan_model.specs.task_networks.Tree.{Tree, used, Address, label_at, IsAddress, IsGrown}
use Rattle.plan_model.specs.task_networks.Preorder.{preorder}
use Rattle.plan_model.specs.plan_meaning.Network.{GroundMethod, network}
use Rattle.plan_model.proofs.task_networks.Parents.{child_address, address_child, parent_label}
use Rattle.tree_core.specs.Tables.{Row, table}
use Rattle.tree_core.specs.Labels.{labels, labelled, labelled_node}
use Rattle.tree_core.specs.Runs.{label_in}
use Rattle.tree_core.proofs.Siblings.{row_of_node, node_address, first_child, next_sibling}
use Rattle.tree_core.proofs.Labelled.{label_at-labelled, preorder-labelled}
use Rattle.slot_speller.specs.Children.{after_in, child_in, plan_by}

module _ (c : Compiled) (tree : Tree (network c)) where
  abbrev rows : List (Row labels)
  rows = table labels (labelled c tree)

  to_labelled : (k : ℕ) (p : Address) → slice_get (preorder (network c) tree) k ≡ Some p
      → slice_get (preorder labels (labelled c tree)) k ≡ Some p
  to_labelled k p e = ap (λ v. slice_get v k) (preorder-labelled c tree) ∙ e

  from_labelled : (k : ℕ) (p : Address) → slice_get (preorder labels (labelled c tree)) k ≡ Some p
      → slice_get (preorder (network c) tree) k ≡ Some p
  from_labelled k p e = ap (λ v. slice_get v k) (sym (preorder-labelled c tree)) ∙ e

  labelled_address : (p : Address) → IsAddress (network c) tree p → IsAddress labels (labelled c tree) p
  labelled_address p (l, e) = (labelled_node c l, label_at-labelled c tree p ∙ ap (option_map (labelled_node c)) e)

  -- the row of a node has its label
  pub node_label : (k : ℕ) (p : Address) → slice_get (preorder (network c) tree) k ≡ Some p
      → label_in rows k ≡ option_map (labelled_node c) (label_at (network c) tree p)
  node_label k p e =
      let (r, f, row) = row_of_node labels (labelled c tree) k p (to_labelled k p e) in
      ap (option_map (λ (x : Row labels). x.label)) f ∙ sym row.label ∙ label_at-labelled c tree p

  pub address_at : (k : ℕ) (p : Address) → slice_get (preorder (network c) tree) k ≡ Some p → IsAddress (network c) tree p
  address_at k p e = node_address (network c) tree k p e

  module _ (grown : IsGrown (network c) tree) (k : ℕ) (p : Address) (at_k : slice_get (preorder (network c) tree) k ≡ Some p)
      (g : GroundMethod)
      (l : label_at (network c) tree p ≡ Some (used g)) where
    -- where each child stands
    pub child_stands : (i : ℕ) → i < count (network c) g → slice_get (preorder (network c) tree) (child_in rows k i) ≡ Some (i ∷ p)
    child_stands zero h =
        let a = labelled_address (0 ∷ p) (child_address (network c) tree p g 0 grown l h) in
        let f = first_child labels (labelled c tree) k p (to_labelled k p at_k) a in
        from_labelled (k + 1) (0 ∷ p) (subst (λ z. slice_get (preorder labels (labelled c tree)) z ≡ Some (0 ∷ p))
        (let z : suc k ≡ k + 1 = omega arith in z) f)
    child_stands (suc i) h =
        let before = child_stands i (omega arith) in
        let here = to_labelled (child_in rows k i) (i ∷ p) before in
        let (r, f, row) = row_of_node labels (labelled c tree) (child_in rows k i) (i ∷ p) here in
        let a = labelled_address (suc i ∷ p) (child_address (network c) tree p g (suc i) grown l h) in
        let n = next_sibling labels (labelled c tree) (child_in rows k i) i p r here f a in
        let e : after_in rows (child_in rows k i) ≡ r.end = ap
        (λ (o : Option (Row labels)). unwrap_or (option_map (λ (x : Row labels). x.end) o) (child_in rows k i)) f in
        from_labelled (child_in rows k (suc i)) (suc i ∷ p)
        (subst (λ z. slice_get (preorder labels (labelled c tree)) z ≡ Some (suc i ∷ p)) (sym e) n)

  -- by which method a node is decomposed
  pub plan_of_node : (k : ℕ) (p : Address) (g : GroundMethod) → slice_get (preorder (network c) tree) k ≡ Some p
      → label_at (network c) tree p ≡ Some (used g)
      → plan_by c (label_in rows k) ≡ slice_get c.methods g.number
  plan_of_node k p g e l = ap (plan_by c) (node_label k p e ∙ ap (option_map (labelled_node c)) l)

  -- a node without an heir has no children
  pub childless : IsLawful (network c) → IsGrown (network c) tree → (k : ℕ) (p : Address) → slice_get (preorder (network c) tree) k ≡ Some p
      → option_and_then (λ (plan : MethodPlan). plan.heir) (plan_by c (label_in rows k)) ≡ None → (i : ℕ)
      → IsAddress (network c) tree (i ∷ p) → ⊥
  childless law grown k p e none i a =
      let (g, l) = parent_label (network c) tree i p a in
      let less = address_child (network c) tree p g i grown l a in
      let (j, h) = law.has_heir g (omega arith) in
      let f = ap (option_and_then (λ (plan : MethodPlan). plan.heir)) (plan_of_node k p g e l) in
      let wrong : Some j ≡ None = sym h ∙ sym f ∙ none in
      cc
