-- A tree of a compiled problem and its labelled tree: the same nodes, labels that say the same, and the same growths.
use Rattle.std.proofs.Common.{ℕ, zero, suc, ◌≡◌, List, [], ◌∷◌, ◌++◌, map, Option, Some, None, option_map, refl, ap, sym, subst, ◌∙◌}
use Rattle.std.specs.Option.{option_and_then}
use Rattle.std.proofs.lemmas.List.{length-map}
use Rattle.plan_model.specs.declared.values.Compiled.{Compiled}
use Rattle.plan_model.specs.task_networks.Tree.{Tree, Trees, open_leaf, done, split, none, more, Label, Address, at, child_at, children_of, label, label_at, IsAddress}
use Rattle.plan_model.specs.task_networks.Preorder.{preorder, nodes_at, nodes_from}
use Rattle.plan_model.specs.plan_meaning.Network.{network}
use Rattle.tree_core.specs.Tables.{table}
use Rattle.tree_core.specs.Growths.{Growth, IsUnder, AreGrowths, IsTreeOf}
use Rattle.tree_core.specs.Labels.{labels, labelled, all_labelled, labelled_node, labelled_growth}
use Rattle.tree_core.specs.Runs.{AreAt}
use Rattle.tree_core.specs.Laws.{LabelledIsAlike, RunsStandForTrees}
use Rattle.tree_core.proofs.Gets.{mapped}
use Rattle.tree_core.proofs.GrowthLaws.{growths_have_one_tree}

module _ (c : Compiled) where
  mutual
    nodes-labelled : (p : Address) (t : Tree (network c)) → nodes_at labels p (labelled c t) ≡ nodes_at (network c) p t
    nodes-labelled p (open_leaf w) = refl
    nodes-labelled p (done w) = refl
    nodes-labelled p (split g ts) = ap (λ ps. p ∷ ps) (all-labelled p 0 ts)

    all-labelled : (p : Address) (i : ℕ) (ts : Trees (network c)) → nodes_from labels p i (all_labelled c ts) ≡ nodes_from (network c) p i ts
    all-labelled p i none = refl
    all-labelled p i (more t ts) = let a = nodes-labelled (i ∷ p) t in let b = all-labelled p (suc i) ts in λ j. a j ++ b j

  child-labelled : (ts : Trees (network c)) (i : ℕ) → child_at labels (all_labelled c ts) i ≡ option_map (labelled c) (child_at (network c) ts i)
  child-labelled none i = refl
  child-labelled (more t ts) zero = refl
  child-labelled (more t ts) (suc i) = child-labelled ts i

  children-labelled : (t : Tree (network c)) (i : ℕ) → child_at labels (children_of labels (labelled c t)) i ≡ option_map (labelled c) (child_at (network c) (children_of (network c) t) i)
  children-labelled (open_leaf w) i = refl
  children-labelled (done w) i = refl
  children-labelled (split g ts) i = child-labelled ts i

  at-labelled : (tree : Tree (network c)) (p : Address) → at labels (labelled c tree) p ≡ option_map (labelled c) (at (network c) tree p)
  at-labelled tree [] = refl
  at-labelled tree (i ∷ p) = ap (option_and_then (λ t. child_at labels (children_of labels t) i)) (at-labelled tree p) ∙ go (at (network c) tree p)
    where
      go : (o : Option (Tree (network c))) → option_and_then (λ t. child_at labels (children_of labels t) i) (option_map (labelled c) o)
          ≡ option_map (labelled c) (option_and_then (λ t. child_at (network c) (children_of (network c) t) i) o)
      go None = refl
      go (Some t) = children-labelled t i

  label-labelled : (t : Tree (network c)) → label labels (labelled c t) ≡ labelled_node c (label (network c) t)
  label-labelled (open_leaf w) = refl
  label-labelled (done w) = refl
  label-labelled (split g ts) = refl

  pub label_at-labelled : (tree : Tree (network c)) (p : Address) → label_at labels (labelled c tree) p ≡ option_map (labelled_node c) (label_at (network c) tree p)
  label_at-labelled tree p = ap (option_map (label labels)) (at-labelled tree p) ∙ go (at (network c) tree p)
    where
      go : (o : Option (Tree (network c))) → option_map (label labels) (option_map (labelled c) o) ≡ option_map (labelled_node c) (option_map (label (network c)) o)
      go None = refl
      go (Some t) = ap Some (label-labelled t)

  pub preorder-labelled : (tree : Tree (network c)) → preorder labels (labelled c tree) ≡ preorder (network c) tree
  preorder-labelled tree = nodes-labelled [] tree

  pub labelled_is_alike : LabelledIsAlike c
  labelled_is_alike tree = record { nodes = preorder-labelled tree; labels_are = label_at-labelled tree }

  pub labelled_address : (tree : Tree (network c)) (p : Address) → IsAddress labels (labelled c tree) p → IsAddress (network c) tree p
  labelled_address tree p (l, e) = go (label_at (network c) tree p) refl
    where
      go : (o : Option (Label (network c))) → label_at (network c) tree p ≡ o → IsAddress (network c) tree p
      go None f = absurd (let g = label_at-labelled tree p in let h = ap (option_map (labelled_node c)) f in cc)
      go (Some k) f = (k, f)

  -- what grows in the network of a problem grows in that of labels
  pub labelled_growths : (gs : List (Growth (network c))) (tree : Tree (network c)) (order : List Address) → AreGrowths (network c) gs tree order → AreGrowths labels (map (labelled_growth c) gs) (labelled c tree) order
  labelled_growths gs tree order a = record {
    many = a.many ∙ sym (length-map gs (labelled_growth c));
    under = λ k (h : Growth labels) p e f. (
        let (g, at, is) = mapped (labelled_growth c) gs k h e in
        subst (λ (z : Growth labels). IsUnder labels order k z.parent z.child p) is (under k g.parent g.child p (a.under k g p at f))
        );
    labels = λ k (h : Growth labels) p e f. (
        let (g, at, is) = mapped (labelled_growth c) gs k h e in
        label_at-labelled tree p ∙ ap (option_map (labelled_node c)) (a.labels k g p at f) ∙ ap (λ (z : Growth labels). Some z.label) is
        );
  }
    where
      under : (k : ℕ) (o : Option ℕ) (i : ℕ) (p : Address) → IsUnder (network c) order k o i p → IsUnder labels order k o i p
      under k None i p u = u
      under k (Some x) i p u = u

  pub labelled_tree : (gs : List (Growth (network c))) (tree : Tree (network c)) (order : List Address) → IsTreeOf (network c) gs tree order → IsTreeOf labels (map (labelled_growth c) gs) (labelled c tree) order
  labelled_tree gs tree order s = record {
    growths_are = labelled_growths gs tree order s.growths_are;
    all = λ p h. s.all p (labelled_address tree p h);
    different = s.different;
  }

  pub runs_stand_for_trees : RunsStandForTrees c
  runs_stand_for_trees gs tree order run s r =
      let (same, one) = growths_have_one_tree labels (map (labelled_growth c) gs) (labelled c tree) r.tree order r.order (labelled_tree gs tree order s) r.grown in
      record {
        rows = r.rows ∙ ap (table labels) same;
        places = subst (λ ps. AreAt (preorder (network c) tree) run.order ps) one (subst (λ ns. AreAt ns run.order r.order) (ap (preorder labels) same ∙ preorder-labelled tree) r.places);
      }
