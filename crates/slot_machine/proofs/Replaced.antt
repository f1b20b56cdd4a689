-- A subtree is put in the place of another.
use Rattle.std.proofs.Common.{ℕ, zero, suc, ◌≡◌, ◌≢◌, ◌⊎◌, inl, inr, [], ◌∷◌, Option, Some, None, option_map, option_and_then, refl, ap, sym, subst, ◌∙◌}
use Rattle.plan_model.specs.task_networks.Net.{Net}
use Rattle.plan_model.specs.task_networks.Tree.{Trees, Tree, none, more, open_leaf, done, split, Address, at, child_at, work_of, works_of, AreGrown, IsGrown, IsAbove, children_of, label, label_at}
use Rattle.plan_model.proofs.task_networks.Addresses.{is_below, below_cases}
use Rattle.plan_model.proofs.task_networks.Nodes.{parent, child_below, grown_at}

module _ (N : Net) where
  abbrev pub set_child : Trees N → ℕ → Tree N → Trees N
  set_child none i s = none
  set_child (more t ts) zero s = more s ts
  set_child (more t ts) (suc i) s = more t (set_child ts i s)

  abbrev pub replaced : Option (Tree N) → ℕ → Tree N → Tree N
  replaced None i s = s
  replaced (Some (open_leaf w)) i s = s
  replaced (Some (done w)) i s = s
  replaced (Some (split m ts)) i s = split m (set_child ts i s)

  -- `s` in the place of what stands at a way
  abbrev pub put : Tree N → Address → Tree N → Tree N
  put tree [] s = s
  put tree (i ∷ p) s = put tree p (replaced (at N tree p) i s)

  child-set_same : (ts : Trees N) (i : ℕ) (t s : Tree N) → child_at N ts i ≡ Some t → child_at N (set_child ts i s) i ≡ Some s
  child-set_same none i t s e = absurd cc
  child-set_same (more u ts) zero t s e = refl
  child-set_same (more u ts) (suc i) t s e = child-set_same ts i t s e

  child-set_other : (ts : Trees N) (i k : ℕ) (s : Tree N) → k ≢ i → child_at N (set_child ts i s) k ≡ child_at N ts k
  child-set_other none i k s n = refl
  child-set_other (more u ts) zero zero s n = absurd (n refl)
  child-set_other (more u ts) zero (suc k) s n = refl
  child-set_other (more u ts) (suc i) zero s n = refl
  child-set_other (more u ts) (suc i) (suc k) s n = child-set_other ts i k s (λ e. n cc)

  works-set : (ts : Trees N) (i : ℕ) (t s : Tree N) → child_at N ts i ≡ Some t → work_of N s ≡ work_of N t → works_of N (set_child ts i s) ≡ works_of N ts
  works-set none i t s e w = refl
  works-set (more u ts) zero t s e w = let f : u ≡ t = cc in ap (λ x. x ∷ works_of N ts) (w ∙ ap (work_of N) (sym f))
  works-set (more u ts) (suc i) t s e w = ap (λ x. work_of N u ∷ x) (works-set ts i t s e w)

  grown-set : (ts : Trees N) (i : ℕ) (s : Tree N) → AreGrown N ts → IsGrown N s → AreGrown N (set_child ts i s)
  grown-set none i s g h = tt
  grown-set (more u ts) zero s g h = (h, g.1)
  grown-set (more u ts) (suc i) s g h = (g.0, grown-set ts i s g.1 h)

  set_back : (ts : Trees N) (i : ℕ) (t : Tree N) → child_at N ts i ≡ Some t → set_child ts i t ≡ ts
  set_back none i t e = refl
  set_back (more u ts) zero t e = let f : t ≡ u = cc in ap (λ x. more x ts) f
  set_back (more u ts) (suc i) t e = ap (more u) (set_back ts i t e)

  set-set : (ts : Trees N) (i : ℕ) (r s : Tree N) → set_child (set_child ts i r) i s ≡ set_child ts i s
  set-set none i r s = refl
  set-set (more u ts) zero r s = refl
  set-set (more u ts) (suc i) r s = ap (more u) (set-set ts i r s)

  put_step : (tree : Tree N) (i : ℕ) (p : Address) (m : N.Method) (ts : Trees N) (s : Tree N) → at N tree p ≡ Some (split m ts) → put tree (i ∷ p) s ≡ put tree p (split m (set_child ts i s))
  put_step tree i p m ts s e = ap (λ o. put tree p (replaced o i s)) e

  pub at-put_same : (tree : Tree N) (p : Address) (t s : Tree N) → at N tree p ≡ Some t → at N (put tree p s) p ≡ Some s
  at-put_same tree [] t s e = refl
  at-put_same tree (i ∷ p) t s e =
      let u = parent N tree i p t e in
      let h : at N (put tree p (split u.0 (set_child u.1 i s))) p ≡ Some (split u.0 (set_child u.1 i s)) = at-put_same tree p (split u.0 u.1) (split u.0 (set_child u.1 i s)) u.2 in
      ap (λ x. at N x (i ∷ p)) (put_step tree i p u.0 u.1 s u.2) ∙ child_below N (put tree p (split u.0 (set_child u.1 i s))) i p u.0 (set_child u.1 i s) h ∙ child-set_same u.1 i t s u.3

  pub put_back : (tree : Tree N) (p : Address) (t : Tree N) → at N tree p ≡ Some t → put tree p t ≡ tree
  put_back tree [] t e = cc
  put_back tree (i ∷ p) t e =
      let u = parent N tree i p t e in
      put_step tree i p u.0 u.1 t u.2 ∙ ap (λ x. put tree p (split u.0 x)) (set_back u.1 i t u.3) ∙ put_back tree p (split u.0 u.1) u.2

  pub put-put : (tree : Tree N) (p : Address) (t r s : Tree N) → at N tree p ≡ Some t → put (put tree p r) p s ≡ put tree p s
  put-put tree [] t r s e = refl
  put-put tree (i ∷ p) t r s e =
      let u = parent N tree i p t e in
      let x : Trees N = set_child u.1 i r in
      let h : at N (put tree p (split u.0 x)) p ≡ Some (split u.0 x) = at-put_same tree p (split u.0 u.1) (split u.0 x) u.2 in
      ap (λ y. put y (i ∷ p) s) (put_step tree i p u.0 u.1 r u.2)
      ∙ put_step (put tree p (split u.0 x)) i p u.0 x s h
      ∙ put-put tree p (split u.0 u.1) (split u.0 x) (split u.0 (set_child x i s)) u.2
      ∙ ap (λ y. put tree p (split u.0 y)) (set-set u.1 i r s)
      ∙ sym (put_step tree i p u.0 u.1 s u.2)

  pub grown-put : (tree : Tree N) (p : Address) (t s : Tree N) → at N tree p ≡ Some t → IsGrown N tree → IsGrown N s → work_of N s ≡ work_of N t → IsGrown N (put tree p s) × (work_of N (put tree p s) ≡ work_of N tree)
  grown-put tree [] t s e g h w = let f : tree ≡ t = cc in (h, w ∙ ap (work_of N) (sym f))
  grown-put tree (i ∷ p) t s e g h w =
      let u = parent N tree i p t e in
      let k = grown_at N tree p (split u.0 u.1) g u.2 in
      let r = grown-put tree p (split u.0 u.1) (split u.0 (set_child u.1 i s)) u.2 g (k.0, works-set u.1 i t s u.3 w ∙ k.1, grown-set u.1 i s k.2 h) refl in
      subst (λ x. IsGrown N x × (work_of N x ≡ work_of N tree)) (sym (put_step tree i p u.0 u.1 s u.2)) r

  -- what is at a node decides what is below it
  below_same : (tree tree' : Tree N) (p q : Address) → at N tree' p ≡ at N tree p → IsAbove p q → at N tree' q ≡ at N tree q
  below_same tree tree' p [] e b = subst (λ x. at N tree' x ≡ at N tree x) b e
  below_same tree tree' p (k ∷ q) e (inl b) = subst (λ x. at N tree' x ≡ at N tree x) b e
  below_same tree tree' p (k ∷ q) e (inr b) = ap (option_and_then (λ u. child_at N (children_of N u) k)) (below_same tree tree' p q e b)

  pub label-put_other : (tree : Tree N) (p : Address) (t s : Tree N) → at N tree p ≡ Some t → (q : Address) → (IsAbove p q → ⊥) → label_at N (put tree p s) q ≡ label_at N tree q
  label-put_other tree [] t s e q n = absurd (n (all_below q))
    where
      all_below : (q : Address) → IsAbove [] q
      all_below [] = refl
      all_below (k ∷ q) = inr (all_below q)
  label-put_other tree (i ∷ p) t s e q n = subst (λ x. label_at N x q ≡ label_at N tree q) (sym (put_step tree i p u.0 u.1 s u.2)) (go (is_below p q) (label-put_other tree p (split u.0 u.1) s' u.2 q))
    where
      u : (m : N.Method) × (ts : Trees N) × (at N tree p ≡ Some (split m ts)) × (child_at N ts i ≡ Some t)
      u = parent N tree i p t e

      s' : Tree N
      s' = split u.0 (set_child u.1 i s)

      h : at N (put tree p s') p ≡ Some s'
      h = at-put_same tree p (split u.0 u.1) s' u.2

      side : (q ≡ p) ⊎ ((k : ℕ) × IsAbove (k ∷ p) q) → label_at N (put tree p s') q ≡ label_at N tree q
      side (inl f) = subst (λ x. label_at N (put tree p s') x ≡ label_at N tree x) (sym f) (ap (option_map (label N)) h ∙ sym (ap (option_map (label N)) u.2))
      side (inr (k, b)) =
          let d : k ≢ i = λ f. n (subst (λ x. IsAbove (x ∷ p) q) f b) in
          let c : at N (put tree p s') (k ∷ p) ≡ at N tree (k ∷ p) = child_below N (put tree p s') k p u.0 (set_child u.1 i s) h ∙ child-set_other u.1 i k s d ∙ sym (child_below N tree k p u.0 u.1 u.2) in
          ap (option_map (label N)) (below_same tree (put tree p s') (k ∷ p) q c b)

      go : Dec (IsAbove p q) → ((IsAbove p q → ⊥) → label_at N (put tree p s') q ≡ label_at N tree q) → label_at N (put tree p s') q ≡ label_at N tree q
      go (no d) ih = ih d
      go (yes b) ih = side (below_cases p q b)
