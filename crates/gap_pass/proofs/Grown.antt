-- What the rows, the lines and the children of a compiled problem's tree say of its nodes.
use Rattle.std.proofs.Common.{ℕ, ◌≡◌, ◌<◌, ◌↔◌, inl, inr, List, [], ◌∷◌, length, Option, Some, None, option_map, slice_get, refl, ap, sym, subst, ◌∙◌, arith}
use Rattle.std.specs.Prelude.{MatchOption}
use Rattle.std.specs.Option.{option_map_or}
use Rattle.std.proofs.lemmas.List.{length-map}
use Rattle.plan_model.specs.declared.schemas.MethodPlan.{MethodPlan}
use Rattle.plan_model.specs.declared.values.Compiled.{Compiled}
use Rattle.plan_model.specs.Pairs.{Pairs}
use Rattle.plan_model.specs.task_networks.Order.{IsLine}
use Rattle.plan_model.specs.task_networks.Net.{count}
use Rattle.plan_model.specs.task_networks.Tree.{Tree, split, Label, waits, ran, used, Address, label_at, IsGrown}
use Rattle.plan_model.specs.task_networks.Preorder.{preorder}
use Rattle.plan_model.specs.plan_meaning.Network.{GroundMethod, network, child_of, subtasks_of, IsGroundMethod}
use Rattle.plan_model.proofs.task_networks.Nodes.{grown_at}
use Rattle.plan_model.proofs.task_networks.Parents.{split_at}
use Rattle.tree_core.specs.Tables.{Row, table, IsRow}
use Rattle.tree_core.specs.Labels.{labels, labelled, labelled_node}
use Rattle.tree_core.specs.Runs.{label_in}
use Rattle.tree_core.proofs.Gets.{get_within}
use Rattle.tree_core.proofs.Labelled.{label_at-labelled, preorder-labelled}
use Rattle.tree_core.proofs.Siblings.{row_of_node, as_many}
use Rattle.gap_pass.specs.Children as children
use Rattle.gap_pass.specs.Children.{AreAllChildren, children_at}
use Rattle.gap_pass.specs.Tours.{IsAt, HasLines, line_of}
use Rattle.gap_pass.proofs.Lines.{IsLineAt}

module _ (c : Compiled) (rows : List (Row labels)) (tree : Tree (network c)) (same : rows ≡ table labels (labelled c tree)) where
  pub there : (x : ℕ) (p : Address) → children.IsAt (labelled c tree) x p → IsAt (network c) tree x p
  there x p e = ap (λ ns. slice_get ns x) (sym (preorder-labelled c tree)) ∙ e

  pub back : (x : ℕ) (p : Address) → IsAt (network c) tree x p → children.IsAt (labelled c tree) x p
  back x p e = ap (λ ns. slice_get ns x) (preorder-labelled c tree) ∙ e

  -- there are as many rows as nodes
  pub many_nodes : length (preorder (network c) tree) ≡ length rows
  many_nodes = ap length (sym (preorder-labelled c tree)) ∙ sym (as_many labels (labelled c tree)) ∙ sym (ap length same)

  pub within_rows : (k : ℕ) (p : Address) → IsAt (network c) tree k p → k < length rows
  within_rows k p a = let l = get_within (preorder (network c) tree) k p a in let m = many_nodes in omega arith

  -- the row at a node's place
  pub row_at : (k : ℕ) (p : Address) → IsAt (network c) tree k p → (r : Row labels) × (slice_get rows k ≡ Some r)
      × IsRow labels (labelled c tree) k r p
  row_at k p a = let (r, e, row) = row_of_node labels (labelled c tree) k p (back k p a) in (r, ap (λ rs. slice_get rs k) same ∙ e, row)

  pub label_here : (k : ℕ) (p : Address) → IsAt (network c) tree k p → label_in rows k ≡ option_map (labelled_node c)
      (label_at (network c) tree p)
  label_here k p a =
      let (r, e, row) = row_at k p a in
      ap (option_map (λ (r : Row labels). r.label)) e ∙ sym row.label ∙ label_at-labelled c tree p

  pub children_here : (children : List (List ℕ)) → AreAllChildren rows children → (k : ℕ) (p : Address) → IsAt (network c) tree k p
      → (i x : ℕ) → (slice_get (children_at children k) i ≡ Some x) ↔ IsAt (network c) tree x (i ∷ p)
  children_here children are k p a i x =
      let h = are k (within_rows k p a) (labelled c tree) p same (back k p a) i x in
      (λ e. there x (i ∷ p) (h.0 e), λ e. h.1 (back x (i ∷ p) e))

  module _ (grown : IsGrown (network c) tree) where
    pub ground : (p : Address) (g : GroundMethod) → label_at (network c) tree p ≡ Some (used g) → IsGroundMethod c g
    ground p g e = let (ts, s) = split_at (network c) tree p g e in (grown_at (network c) tree p (split g ts) grown s).0

    line_is : (g : GroundMethod) (plan : MethodPlan) (line : List ℕ) → slice_get c.methods g.number ≡ Some plan
        → line ≡ option_map_or (λ (z : MethodPlan). z.line) (slice_get c.methods g.number) []
        → IsLine (Pairs plan.schema.pairs) (length plan.schema.children) plan.line → IsLine ((network c).Pair g) (count (network c) g) line
    line_is g plan line e f l = go (slice_get c.methods g.number) e f
      where
        go : (o : Option MethodPlan) → o ≡ Some plan → line ≡ option_map_or (λ (z : MethodPlan). z.line) o []
            → IsLine (λ i j. MatchOption o ⊥ (λ z. Pairs z.schema.pairs i j)) (length (option_map_or (subtasks_of g) o [])) line
        go None a b = absurd cc
        go (Some z) a b =
            let same : z ≡ plan = cc in
            let m : length (subtasks_of g plan) ≡ length plan.schema.children = length-map plan.schema.children (child_of g) in
            subst (λ z'. IsLine (λ i j. Pairs z'.schema.pairs i j) (length (subtasks_of g z')) line) (sym same)
            (subst (λ n. IsLine (Pairs plan.schema.pairs) n line) (sym m)
            (subst (IsLine (Pairs plan.schema.pairs) (length plan.schema.children)) (sym (b ∙ ap (λ z'. z'.line) same)) l))

    pub line_here : HasLines c → (k : ℕ) (p : Address) → IsAt (network c) tree k p
        → IsLineAt (network c) tree grown p (line_of c (label_in rows k))
    line_here lines k p a = go (label_at (network c) tree p) refl (ap (line_of c) (label_here k p a))
      where
        go : (o : Option (Label (network c))) → label_at (network c) tree p ≡ o → line_of c (label_in rows k) ≡ line_of c
            (option_map (labelled_node c) o)
            → IsLineAt (network c) tree grown p (line_of c (label_in rows k))
        go None e f = inr (λ m h. cc, f)
        go (Some (waits w)) e f = inr (λ m h. cc, f)
        go (Some (ran w)) e f = inr (λ m h. cc, f)
        go (Some (used g)) e f = let b = ground p g e in inl (
          g,
          e,
          line_is g b.plan (line_of c (label_in rows k)) b.is f
              (lines g.number b.plan b.is),
        )
