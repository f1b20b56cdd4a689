-- The tree of a label, whose children are open leaves.
use Rattle.std.proofs.Common.{ℕ, ◌≡◌, [], ◌∷◌, Some, None, option_map, option_and_then, refl, ap, sym, subst, ◌∙◌}
use Rattle.plan_model.specs.task_networks.Net.{Net}
use Rattle.plan_model.specs.task_networks.Tree.{Label, Tree, waits, open_leaf, ran, done, used, split, at, label, work_of, IsGrown, IsTaken, Address, label_at, child_at, children_of}
use Rattle.plan_model.proofs.task_networks.Nodes.{child_below, grown_at}
use Rattle.plan_model.proofs.task_networks.Parents.{split_at}
use Rattle.slot_machine.proofs.Growth.{leaves, grow, works-leaves, leaves_grown, IsFresh, done_fresh, split_fresh, IsGrowth, shrink, done_at, leaves_from_labels}
use Rattle.slot_machine.proofs.Replaced.{put}

module _ (N : Net) where
  abbrev pub tree_of : Label N → Tree N
  tree_of (waits w) = open_leaf w
  tree_of (ran w) = done w
  tree_of (used m) = split m (leaves N (N.works m))

  abbrev pub work_at : Label N → N.Work
  work_at (waits w) = w
  work_at (ran w) = w
  work_at (used m) = N.head m

  abbrev pub IsLegal : Label N → Type 0
  IsLegal (waits w) = Unit {0}
  IsLegal (ran w) = N.IsSimple w
  IsLegal (used m) = N.IsGround m

  pub label-tree_of : (l : Label N) → label N (tree_of l) ≡ l
  label-tree_of (waits w) = refl
  label-tree_of (ran w) = refl
  label-tree_of (used m) = refl

  pub work-tree_of : (l : Label N) → work_of N (tree_of l) ≡ work_at l
  work-tree_of (waits w) = refl
  work-tree_of (ran w) = refl
  work-tree_of (used m) = refl

  pub legal_grown : (l : Label N) → IsLegal l → IsGrown N (tree_of l)
  legal_grown (waits w) h = tt
  legal_grown (ran w) h = h
  legal_grown (used m) h = (h, works-leaves N (N.works m), leaves_grown N (N.works m))

  pub grown_legal : (l : Label N) → IsGrown N (tree_of l) → IsLegal l
  grown_legal (waits w) h = tt
  grown_legal (ran w) h = h
  grown_legal (used m) h = h.0

  fresh_of : (l : Label N) → IsTaken N l → IsFresh N (tree_of l)
  fresh_of (waits w) t = absurd t
  fresh_of (ran w) t = done_fresh N w
  fresh_of (used m) t = split_fresh N m

  taken_of : (l : Label N) → IsTaken N l → IsTaken N (label N (tree_of l))
  taken_of l t = subst (IsTaken N) (sym (label-tree_of l)) t

  pub growth_to : (tree : Tree N) (p : Address) (w : N.Work) (l : Label N) → IsTaken N l → at N tree p ≡ Some (open_leaf w) → IsGrowth N tree (put N tree p (tree_of l)) p w l
  growth_to tree p w l t a = subst (IsGrowth N tree (put N tree p (tree_of l)) p w) (label-tree_of l) (grow N tree p w (tree_of l) (taken_of l t) (fresh_of l t) a)

  pub growth_from : (tree : Tree N) (p : Address) (w : N.Work) (l : Label N) → IsTaken N l → at N tree p ≡ Some (tree_of l) → IsGrowth N (put N tree p (open_leaf w)) tree p w l
  growth_from tree p w l t a = subst (IsGrowth N (put N tree p (open_leaf w)) tree p w) (label-tree_of l) (shrink N tree p w (tree_of l) (taken_of l t) (fresh_of l t) a)

  -- a node whose children are all open leaves is the tree of its label
  pub tree_at : (tree : Tree N) (p : Address) (l : Label N) → IsGrown N tree → IsTaken N l → label_at N tree p ≡ Some l → ((i : ℕ) (k : Label N) → label_at N tree (i ∷ p) ≡ Some k → IsTaken N k → ⊥) → at N tree p ≡ Some (tree_of l)
  tree_at tree p (waits w) g t e h = absurd t
  tree_at tree p (ran w) g t e h = done_at N tree p w e
  tree_at tree p (used m) g t e h =
      let (ts, a) = split_at N tree p m e in
      let ws = (grown_at N tree p (split m ts) g a).1 in
      let r : ts ≡ leaves N (N.works m) = leaves_from_labels N ts (N.works m) ws (λ (i : ℕ) (k : Label N) (f : option_map (label N) (child_at N ts i) ≡ Some k). h i k (ap (option_map (label N)) (child_below N tree i p m ts a) ∙ f)) in
      a ∙ ap (λ x. Some (split m x)) r

  -- a tree without a node taken is an open leaf
  pub untaken : (tree : Tree N) → ((l : Label N) → label N tree ≡ l → IsTaken N l → ⊥) → tree ≡ open_leaf (work_of N tree)
  untaken (open_leaf w) h = refl
  untaken (done w) h = absurd (h (ran w) refl tt)
  untaken (split m ts) h = absurd (h (used m) refl tt)

  nothing_below : (w : N.Work) (i : ℕ) (q : Address) → at N (open_leaf w) (i ∷ q) ≡ None
  nothing_below w i [] = refl
  nothing_below w i (j ∷ q) = ap (option_and_then (λ t. child_at N (children_of N t) i)) (nothing_below w j q)

  pub leaf_only : (w : N.Work) (l : Label N) (q : Address) → label_at N (open_leaf w) q ≡ Some l → (q ≡ []) × (l ≡ waits w)
  leaf_only w l [] e = (refl, cc)
  leaf_only w l (i ∷ q) e = let h = ap (option_map (label N)) (nothing_below w i q) in absurd cc
