-- What stands at the nodes of a grown tree: ground methods, simple works, and the works of the methods above.
use Rattle.std.proofs.Common.{ℕ, zero, suc, ◌≡◌, ◌∷◌, slice_get, Option, Some, None, option_map, refl, ap, sym, subst, ◌∙◌}
use Rattle.plan_model.specs.task_networks.Net.{Net}
use Rattle.plan_model.specs.task_networks.Tree.{Tree, Trees, open_leaf, done, split, none, more, Address, at, child_at, label, label_at, ran, used, work_of, works_of, IsAddress, IsGrown}
use Rattle.plan_model.proofs.task_networks.Nodes.{parent, grown_at}
use Rattle.plan_model.proofs.task_networks.Parents.{split_at}

module _ (N : Net) where
  -- the work of a child
  work_in : (ts : Trees N) (i : ℕ) (t : Tree N) → child_at N ts i ≡ Some t → slice_get (works_of N ts) i ≡ Some (work_of N t)
  work_in none i t e = absurd cc
  work_in (more u ts) zero t e = ap (λ z. Some (work_of N z)) (let f : u ≡ t = cc in f)
  work_in (more u ts) (suc i) t e = work_in ts i t e

  module _ (tree : Tree N) where
    pub tree_there : (p : Address) → IsAddress N tree p → (t : Tree N) × (at N tree p ≡ Some t) × (label_at N tree p ≡ Some (label N t))
    tree_there p (l, e) = go (at N tree p) refl e
      where
        go : (o : Option (Tree N)) → at N tree p ≡ o → option_map (label N) o ≡ Some l
            → (t : Tree N) × (at N tree p ≡ Some t) × (label_at N tree p ≡ Some (label N t))
        go None f c = absurd cc
        go (Some t) f c = (t, f, ap (option_map (label N)) f)

    pub ground_at : IsGrown N tree → (q : Address) (m : N.Method) → label_at N tree q ≡ Some (used m) → N.IsGround m
    ground_at g q m e = let (ts, a) = split_at N tree q m e in (grown_at N tree q (split m ts) g a).0

    pub simple_at : IsGrown N tree → (p : Address) (w : N.Work) → label_at N tree p ≡ Some (ran w) → N.IsSimple w
    simple_at g p w e = go (at N tree p) refl e
      where
        go : (o : Option (Tree N)) → at N tree p ≡ o → option_map (label N) o ≡ Some (ran w) → N.IsSimple w
        go None f c = absurd cc
        go (Some (open_leaf v)) f c = absurd cc
        go (Some (done v)) f c = subst N.IsSimple (let r : v ≡ w = cc in r) (grown_at N tree p (done v) g f)
        go (Some (split m ts)) f c = absurd cc

    -- the work of a node is that of its parent's method
    pub its_work : IsGrown N tree → (i : ℕ) (q : Address) (m : N.Method) → label_at N tree q ≡ Some (used m) → (t : Tree N)
        → at N tree (i ∷ q) ≡ Some t → slice_get (N.works m) i ≡ Some (work_of N t)
    its_work g i q m e t f =
        let (n, ts, h, c) = parent N tree i q t f in
        let grown = grown_at N tree q (split n ts) g h in
        let same : n ≡ m = (let k = ap (option_map (label N)) h in cc) in
        subst (λ z. slice_get (N.works z) i ≡ Some (work_of N t)) same (ap (λ z. slice_get z i) (sym grown.1) ∙ work_in ts i t c)
