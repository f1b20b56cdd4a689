-- One open leaf is processed: how the labels change.
use Rattle.std.proofs.Common.{ℕ, zero, suc, ◌≡◌, ◌≢◌, ◌⊎◌, inl, inr, List, [], ◌∷◌, Option, Some, None, option_map, option_and_then, slice_get, refl, ap, sym, subst, ◌∙◌}
use Rattle.plan_model.specs.task_networks.Net.{Net}
use Rattle.plan_model.specs.task_networks.Tree.{Label, waits, ran, used, Tree, Address, IsTaken, label_at, label, at, child_at, children_of, open_leaf, done, split, none, IsAbove, Trees, more, works_of, AreGrown}
use Rattle.plan_model.proofs.task_networks.Addresses.{is_below, below_up, below_cases, is_same_address}
use Rattle.slot_machine.proofs.Replaced.{put, at-put_same, label-put_other}

module _ (N : Net) where
  abbrev pub child_works : Label N → List N.Work
  child_works (waits w) = []
  child_works (ran w) = []
  child_works (used m) = N.works m

  -- tree' is tree with the open leaf w at p processed, as l, its children open leaves
  pub record IsGrowth (tree tree' : Tree N) (p : Address) (w : N.Work) (l : Label N) : Type 0 where
    pub taken : IsTaken N l
    pub was : label_at N tree p ≡ Some (waits w)
    pub now : label_at N tree' p ≡ Some l
    pub childless : (i : ℕ) → label_at N tree (i ∷ p) ≡ None
    pub children : (i : ℕ) → label_at N tree' (i ∷ p) ≡ option_map waits (slice_get (child_works l) i)
    pub others : (q : Address) → q ≢ p → ((i : ℕ) → q ≢ i ∷ p) → label_at N tree' q ≡ label_at N tree q

  -- the children are open leaves for the works of the label
  abbrev pub IsFresh : Tree N → Type 0
  IsFresh s = (i : ℕ) → option_map (label N) (child_at N (children_of N s) i) ≡ option_map waits (slice_get (child_works (label N s)) i)

  nothing_under : (o : Option (Tree N)) (v : Option N.Work) (k : ℕ) → option_map (label N) o ≡ option_map waits v → option_and_then (λ t. child_at N (children_of N t) k) o ≡ None
  nothing_under None v k e = refl
  nothing_under (Some (open_leaf w)) v k e = refl
  nothing_under (Some (done w)) None k e = absurd cc
  nothing_under (Some (done w)) (Some v) k e = absurd cc
  nothing_under (Some (split m ts)) None k e = absurd cc
  nothing_under (Some (split m ts)) (Some v) k e = absurd cc

  pub none_below : (tree : Tree N) (p q : Address) → at N tree p ≡ None → IsAbove p q → at N tree q ≡ None
  none_below tree p [] e b = subst (λ x. at N tree x ≡ None) b e
  none_below tree p (k ∷ q) e (inl b) = subst (λ x. at N tree x ≡ None) b e
  none_below tree p (k ∷ q) e (inr b) = ap (option_and_then (λ u. child_at N (children_of N u) k)) (none_below tree p q e b)

  -- two trees that differ at p alone
  growth : (tree tree' : Tree N) (p : Address) (w : N.Work) (s : Tree N) → IsTaken N (label N s) → IsFresh s → at N tree p ≡ Some (open_leaf w) → at N tree' p ≡ Some s → ((q : Address) → (IsAbove p q → ⊥) → label_at N tree' q ≡ label_at N tree q) → IsGrowth tree tree' p w (label N s)
  growth tree tree' p w s t f a b o = record {
    taken = t;
    was = ap (option_map (label N)) a;
    now = ap (option_map (label N)) b;
    childless = λ i. ap (λ x. option_map (label N) (option_and_then (λ t. child_at N (children_of N t) i) x)) a;
    children = child;
    others = λ q n k. other q n k (is_below p q);
  }
    where
      child : (i : ℕ) → label_at N tree' (i ∷ p) ≡ option_map waits (slice_get (child_works (label N s)) i)
      child i = ap (λ x. option_map (label N) (option_and_then (λ t. child_at N (children_of N t) i) x)) b ∙ f i

      deep : (q : Address) (i : ℕ) → ((i : ℕ) → q ≢ i ∷ p) → (q ≡ i ∷ p) ⊎ ((j : ℕ) × IsAbove (j ∷ i ∷ p) q) → at N tree' q ≡ at N tree q
      deep q i k (inl e) = absurd (k i e)
      deep q i k (inr (j, c)) =
          let x : at N tree' (j ∷ i ∷ p) ≡ None = nothing_under (at N tree' (i ∷ p)) (slice_get (child_works (label N s)) i) j (child i) in
          let y : at N tree (i ∷ p) ≡ None = ap (option_and_then (λ t. child_at N (children_of N t) i)) a in
          none_below tree' (j ∷ i ∷ p) q x c ∙ sym (none_below tree (i ∷ p) q y (below_up j (i ∷ p) q c))

      inside : (q : Address) → q ≢ p → ((i : ℕ) → q ≢ i ∷ p) → (q ≡ p) ⊎ ((i : ℕ) × IsAbove (i ∷ p) q) → at N tree' q ≡ at N tree q
      inside q n k (inl e) = absurd (n e)
      inside q n k (inr (i, c)) = deep q i k (below_cases (i ∷ p) q c)

      other : (q : Address) → q ≢ p → ((i : ℕ) → q ≢ i ∷ p) → Dec (IsAbove p q) → label_at N tree' q ≡ label_at N tree q
      other q n k (no d) = o q d
      other q n k (yes c) = ap (option_map (label N)) (inside q n k (below_cases p q c))

  pub grow : (tree : Tree N) (p : Address) (w : N.Work) (s : Tree N) → IsTaken N (label N s) → IsFresh s → at N tree p ≡ Some (open_leaf w) → IsGrowth tree (put N tree p s) p w (label N s)
  grow tree p w s t f a = growth tree (put N tree p s) p w s t f a (at-put_same N tree p (open_leaf w) s a) (label-put_other N tree p (open_leaf w) s a)

  pub shrink : (tree : Tree N) (p : Address) (w : N.Work) (s : Tree N) → IsTaken N (label N s) → IsFresh s → at N tree p ≡ Some s → IsGrowth (put N tree p (open_leaf w)) tree p w (label N s)
  shrink tree p w s t f a = growth (put N tree p (open_leaf w)) tree p w s t f (at-put_same N tree p s (open_leaf w) a) a (λ q n. sym (label-put_other N tree p s (open_leaf w) a q n))

  -- where a node of the grown tree stands
  pub place : (p q : Address) → (q ≡ p) ⊎ (((i : ℕ) × (q ≡ i ∷ p)) ⊎ ((q ≢ p) × ((i : ℕ) → q ≢ i ∷ p)))
  place p [] = go (is_same_address [] p)
    where
      go : Dec ([] ≡ p) → ([] ≡ p) ⊎ (((i : ℕ) × ([] ≡ i ∷ p)) ⊎ (([] ≢ p) × ((i : ℕ) → [] ≢ i ∷ p)))
      go (yes e) = inl e
      go (no n) = inr (inr (n, λ i e. cc))
  place p (k ∷ q) = go (is_same_address (k ∷ q) p) (is_same_address q p)
    where
      go : Dec (k ∷ q ≡ p) → Dec (q ≡ p) → (k ∷ q ≡ p) ⊎ (((i : ℕ) × (k ∷ q ≡ i ∷ p)) ⊎ ((k ∷ q ≢ p) × ((i : ℕ) → k ∷ q ≢ i ∷ p)))
      go (yes e) d = inl e
      go (no n) (yes e) = inr (inl (k, ap (λ x. k ∷ x) e))
      go (no n) (no m) = inr (inr (n, λ i e. m cc))

  abbrev pub leaves : List N.Work → Trees N
  leaves [] = none
  leaves (w ∷ ws) = more (open_leaf w) (leaves ws)

  pub works-leaves : (ws : List N.Work) → works_of N (leaves ws) ≡ ws
  works-leaves [] = refl
  works-leaves (w ∷ ws) = ap (λ x. w ∷ x) (works-leaves ws)

  pub leaves_grown : (ws : List N.Work) → AreGrown N (leaves ws)
  leaves_grown [] = tt
  leaves_grown (w ∷ ws) = (tt, leaves_grown ws)

  leaves-at : (ws : List N.Work) (i : ℕ) → option_map (label N) (child_at N (leaves ws) i) ≡ option_map waits (slice_get ws i)
  leaves-at [] i = refl
  leaves-at (w ∷ ws) zero = refl
  leaves-at (w ∷ ws) (suc i) = leaves-at ws i

  pub done_fresh : (w : N.Work) → IsFresh (done w)
  done_fresh w i = refl

  pub split_fresh : (m : N.Method) → IsFresh (split m (leaves (N.works m)))
  split_fresh m i = leaves-at (N.works m) i

  -- trees all of whose roots are open leaves
  pub leaves_from_labels : (ts : Trees N) (ws : List N.Work) → works_of N ts ≡ ws → ((i : ℕ) (l : Label N) → option_map (label N) (child_at N ts i) ≡ Some l → IsTaken N l → ⊥) → ts ≡ leaves ws
  leaves_from_labels none [] e h = refl
  leaves_from_labels none (w ∷ ws) e h = absurd cc
  leaves_from_labels (more t ts) [] e h = absurd cc
  leaves_from_labels (more (open_leaf v) ts) (w ∷ ws) e h =
      let r : ts ≡ leaves ws = (let g : works_of N ts ≡ ws = cc in leaves_from_labels ts ws g (λ (i : ℕ). h (suc i))) in
      let f : v ≡ w = cc in
      cc
  leaves_from_labels (more (done v) ts) (w ∷ ws) e h = absurd (h 0 (ran v) refl tt)
  leaves_from_labels (more (split m us) ts) (w ∷ ws) e h = absurd (h 0 (used m) refl tt)

  -- the tree is what its labels say
  pub leaf_at : (tree : Tree N) (p : Address) (w : N.Work) → label_at N tree p ≡ Some (waits w) → at N tree p ≡ Some (open_leaf w)
  leaf_at tree p w e = go (at N tree p) e
    where
      go : (o : Option (Tree N)) → option_map (label N) o ≡ Some (waits w) → o ≡ Some (open_leaf w)
      go None f = absurd cc
      go (Some (open_leaf v)) f = cc
      go (Some (done v)) f = absurd cc
      go (Some (split m ts)) f = absurd cc

  pub done_at : (tree : Tree N) (p : Address) (w : N.Work) → label_at N tree p ≡ Some (ran w) → at N tree p ≡ Some (done w)
  done_at tree p w e = go (at N tree p) e
    where
      go : (o : Option (Tree N)) → option_map (label N) o ≡ Some (ran w) → o ≡ Some (done w)
      go None f = absurd cc
      go (Some (open_leaf v)) f = absurd cc
      go (Some (done v)) f = cc
      go (Some (split m ts)) f = absurd cc
