-- Nodes by their places: what rows tell is what the tree shows.
use Rattle.std.proofs.Common.{ℕ, ◌≡◌, List, [], ◌∷◌, filter, cond, Bool, true, false, Some, slice_get}
use Rattle.plan_model.specs.task_networks.Tree.{Address}
use Rattle.tree_core.specs.Runs.{AreAt}

-- places and nodes are selected alike
module _ (nodes : List Address) (h : ℕ → Bool) (f : Address → Bool) (same : (k : ℕ) (p : Address) → slice_get nodes k ≡ Some p → h k ≡ f p) where
  pub selected : (ks : List ℕ) (ps : List Address) → AreAt nodes ks ps → AreAt nodes (filter h ks) (filter f ps)
  selected [] [] a = tt
  selected [] (p ∷ ps) a = absurd a
  selected (k ∷ ks) [] a = absurd a
  selected (k ∷ ks) (p ∷ ps) (e, a) = go (h k) (f p) (same k p e) (selected ks ps a)
    where
      go : (x y : Bool) → x ≡ y → AreAt nodes (filter h ks) (filter f ps) → AreAt nodes (cond x (k ∷ filter h ks) (filter h ks)) (cond y (p ∷ filter f ps) (filter f ps))
      go true true u r = (e, r)
      go false false u r = r
      go true false u r = absurd cc
      go false true u r = absurd cc
