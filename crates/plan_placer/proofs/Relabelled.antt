-- The nodes of a tree with other works and methods stand in the same preorder.
use Rattle.std.proofs.Common.{ℕ, suc, ◌≡◌, [], ◌∷◌, ◌++◌, refl}
use Rattle.plan_model.specs.task_networks.Net.{Net}
use Rattle.plan_model.specs.task_networks.Tree.{Tree, Trees, open_leaf, done, split, none, more, Address}
use Rattle.plan_model.specs.task_networks.Preorder.{nodes_at, nodes_from, preorder}
use Rattle.schedules.specs.latest.Relabelled.{relabelled, all_relabelled}

module _ (N : Net) (work : Address → N.Work → N.Work) (method : Address → N.Method → N.Method) where
  mutual
    nodes_new : (p q : Address) (t : Tree N) → nodes_at N p (relabelled N work method q t) ≡ nodes_at N p t
    nodes_new p q (open_leaf w) = refl
    nodes_new p q (done w) = refl
    nodes_new p q (split m ts) = let r = all_nodes_new p 0 q 0 ts in λ i. p ∷ r i

    all_nodes_new : (p : Address) (i : ℕ) (q : Address) (j : ℕ) (ts : Trees N)
        → nodes_from N p i (all_relabelled N work method q j ts) ≡ nodes_from N p i ts
    all_nodes_new p i q j none = refl
    all_nodes_new p i q j (more t ts) =
        let a = nodes_new (i ∷ p) (j ∷ q) t in
        let b = all_nodes_new p (suc i) q (suc j) ts in
        λ k. a k ++ b k

  pub preorder_new : (tree : Tree N) → preorder N (relabelled N work method [] tree) ≡ preorder N tree
  preorder_new tree = nodes_new [] [] tree
