-- What is known of a node that was entered: what it must precede is left.
use Rattle.std.proofs.Common.{ℕ, zero, suc, ◌≡◌, ◌+◌, ◌<◌, ◌≤◌, ◌⊎◌, inl, inr, List, [], ◌∷◌, ◌++◌, take, drop, Some, slice_get, ap, sym, subst, ◌∙◌, Contains, arith}
use Rattle.std.proofs.lemmas.List.{take-take, take-append-drop}
use Rattle.std.proofs.lemmas.List.Elements.{Contains-append_left, Contains-append_cases}
use Rattle.plan_model.specs.task_networks.Order.{Precedes}
use Rattle.plan_model.specs.task_networks.Net.{Net}
use Rattle.plan_model.specs.task_networks.Tree.{Tree, Address, used, label_at}
use Rattle.plan_model.specs.task_networks.Schedule.{Blocks}
use Rattle.plan_model.proofs.task_networks.Lists.{head_or_tail, not-in_empty}
use Rattle.plan_model.proofs.task_networks.Parents.{parent_address}
use Rattle.tree_core.proofs.Gets.{place_of}
use Rattle.tree_core.proofs.Siblings.{place_of_node, node_address}
use Rattle.gap_pass.specs.Tours.{IsAt, Needs, IsLeft, IsTour}
use Rattle.gap_pass.specs.declared.tour.Step.{Step}
use Rattle.gap_pass.specs.declared.tour.Step.TheVariants.{Enter, Leave}
use Rattle.gap_pass.proofs.Touring.{needs_more}

module _ {A : Type 0} where
  pub taken_at : (xs : List A) (t s : ℕ) (x : A) → slice_get (take t xs) s ≡ Some x → (s < t) × (slice_get xs s ≡ Some x)
  taken_at xs zero s x e = absurd cc
  taken_at [] (suc t) s x e = absurd cc
  taken_at (y ∷ xs) (suc t) zero x e = (omega arith, e)
  taken_at (y ∷ xs) (suc t) (suc s) x e = let h = taken_at xs t s x e in let l = h.0 in (omega arith, h.1)

  taken_next : (xs : List A) (t : ℕ) (x : A) → slice_get xs t ≡ Some x → take (suc t) xs ≡ take t xs ++ x ∷ []
  taken_next [] t x e = absurd cc
  taken_next (y ∷ xs) zero x e = let f : y ≡ x = cc in ap (λ z. z ∷ []) f
  taken_next (y ∷ xs) (suc t) x e = ap (λ zs. y ∷ zs) (taken_next xs t x e)

  pub one_more : (xs : List A) (t : ℕ) (x : A) → slice_get xs t ≡ Some x → take (t + 1) xs ≡ take t xs ++ x ∷ []
  one_more xs t x e = ap (λ n. take n xs) (let f : t + 1 ≡ suc t = omega arith in f) ∙ taken_next xs t x e

  pub taken_later : (xs : List A) (s t : ℕ) (x : A) → s ≤ t → Contains (take s xs) x → Contains (take t xs) x
  taken_later xs s t x l c =
      subst (λ zs. Contains zs x) (take-append-drop s (take t xs))
      (Contains-append_left (take s (take t xs)) (drop s (take t xs)) x (subst (λ zs. Contains zs x) (sym (take-take s t xs l)) c))

  -- what is taken with one more
  pub one_more_cases : (xs : List A) (t : ℕ) (x y : A) → slice_get xs t ≡ Some x → Contains (take (t + 1) xs) y
      → Contains (take t xs) y ⊎ (x ≡ y)
  one_more_cases xs t x y e c = elim (Contains-append_cases (take t xs) (x ∷ []) y (subst (λ zs. Contains zs y) (one_more xs t x e) c)) [
    | inl d ↦ inl d
    | inr d ↦ elim (head_or_tail x [] y d) [ inl f ↦ inr f | inr n ↦ absurd (not-in_empty y n) ]
  ]

module _ (N : Net) (tree : Tree N) (steps : List Step) (is : IsTour N tree steps) where
  -- what a step needed is left
  pub needed : (t : ℕ) (s : Step) → Contains (take t steps) s → Needs N tree s (IsLeft N tree (take t steps))
  needed t s c =
      let (n, e) = place_of (take t steps) s c in
      let (l, f) = taken_at steps t n s e in
      needs_more N tree s _ _ (λ k d. taken_later steps n t (Leave k) (omega arith) d) (is.each n s f).needs

  pub parent_entered : (t k i x : ℕ) (q : Address) → Contains (take t steps) (Enter k) → IsAt N tree k (i ∷ q) → IsAt N tree x q
      → Contains (take t steps) (Enter x)
  parent_entered t k i x q c a b =
      let (n, e) = place_of (take t steps) (Enter k) c in
      let (l, f) = taken_at steps t n (Enter k) e in
      taken_later steps n t (Enter x) (omega arith) ((is.each n (Enter k) f).begun i x q a b)

  -- what a node that was entered must precede is left
  pub clear : (t : ℕ) (u : Address) (k : ℕ) (v : Address) (y : ℕ) → Contains (take t steps) (Enter k) → IsAt N tree k u
      → Blocks N tree u v → IsAt N tree y v
      → IsLeft N tree (take t steps) y
  clear t u k [] y c a b d = absurd b
  clear t [] k (j ∷ q) y c a (m, i, e, h, above) d = absurd cc
  clear t (n ∷ u) k (j ∷ q) y c a (m, i, e, h, inl same) d =
      let f : q ≡ u = cc in
      let g : i ≡ n = cc in
      needed t (Enter k) c n j y u m a (subst (λ z. label_at N tree z ≡ Some (used m)) f e) (subst (λ z. Precedes (N.Pair m) z j) g h)
      (subst (λ z. IsAt N tree y (j ∷ z)) f d)
  clear t (n ∷ u) k (j ∷ q) y c a (m, i, e, h, inr above) d =
      let (x, b) = place_of_node N tree u (parent_address N tree n u (node_address N tree k (n ∷ u) a)) in
      clear t u x (j ∷ q) y (parent_entered t k n x u c a b) b (m, i, e, h, above) d
