-- Trees with the same labels at the same addresses are one.
use Rattle.std.proofs.Common.{ℕ, suc, ◌≡◌, [], ◌∷◌, ◌++◌, Option, Some, None, option_map, option_and_then, refl, ap, sym, ◌∙◌}
use Rattle.plan_model.specs.task_networks.Net.{Net}
use Rattle.plan_model.specs.task_networks.Tree.{Tree, Trees, open_leaf, done, split, none, more, Label, Address, at, child_at, children_of, label, label_at}
use Rattle.tree_core.specs.Laws.{LabelsTellTree}

module _ (N : Net) where
  -- the subtree at an address that goes on
  pub at-append : (tree : Tree N) (q p : Address) → at N tree (q ++ p) ≡ option_and_then (λ t. at N t q) (at N tree p)
  at-append tree [] p = whole (at N tree p)
    where
      whole : (o : Option (Tree N)) → o ≡ option_and_then (λ t. Some t) o
      whole None = refl
      whole (Some t) = refl
  at-append tree (i ∷ q) p = ap (option_and_then (λ t. child_at N (children_of N t) i)) (at-append tree q p) ∙ go (at N tree p)
    where
      go : (o : Option (Tree N)) → option_and_then (λ t. child_at N (children_of N t) i) (option_and_then (λ t. at N t q) o) ≡ option_and_then (λ t. at N t (i ∷ q)) o
      go None = refl
      go (Some t) = refl

  -- the labels below an optional subtree
  abbrev below : Option (Tree N) → Address → Option (Label N)
  below o q = option_map (label N) (option_and_then (λ t. at N t q) o)

  below_child : (tree : Tree N) (i : ℕ) (q : Address) → label_at N tree (q ++ i ∷ []) ≡ below (child_at N (children_of N tree) i) q
  below_child tree i q = ap (option_map (label N)) (at-append tree q (i ∷ []))

  mutual
    same_tree : (t u : Tree N) → ((p : Address) → label_at N t p ≡ label_at N u p) → t ≡ u
    same_tree (open_leaf w) (open_leaf v) h = let e = h [] in let f : w ≡ v = cc in ap open_leaf f
    same_tree (done w) (done v) h = let e = h [] in let f : w ≡ v = cc in ap done f
    same_tree (split m ts) (split n us) h =
        let e = h [] in
        let f : m ≡ n = cc in
        let g = same_trees ts us (λ i q. sym (below_child (split m ts) i q) ∙ h (q ++ i ∷ []) ∙ below_child (split n us) i q) in
        λ i. split (f i) (g i)
    same_tree (open_leaf w) (done v) h = let e = h [] in absurd cc
    same_tree (open_leaf w) (split n us) h = let e = h [] in absurd cc
    same_tree (done w) (open_leaf v) h = let e = h [] in absurd cc
    same_tree (done w) (split n us) h = let e = h [] in absurd cc
    same_tree (split m ts) (open_leaf v) h = let e = h [] in absurd cc
    same_tree (split m ts) (done v) h = let e = h [] in absurd cc

    same_trees : (ts us : Trees N) → ((i : ℕ) (q : Address) → below (child_at N ts i) q ≡ below (child_at N us i) q) → ts ≡ us
    same_trees none none h = refl
    same_trees none (more u us) h = let e = h 0 [] in absurd cc
    same_trees (more t ts) none h = let e = h 0 [] in absurd cc
    same_trees (more t ts) (more u us) h =
        let f = same_tree t u (λ q. h 0 q) in
        let g = same_trees ts us (λ i q. h (suc i) q) in
        λ i. more (f i) (g i)

  pub labels_tell_tree : LabelsTellTree N
  labels_tell_tree tree other h = same_tree tree other h
