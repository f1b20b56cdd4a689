-- Addresses in a tree, and which are below which.
use Rattle.std.proofs.Common.{ℕ, ◌≡◌, ◌≤◌, ◌⊎◌, inl, inr, [], ◌∷◌, length, refl, ap, sym, subst, arith}
use Rattle.std.proofs.Math.Decide.{ℕ_discrete}
use Rattle.plan_model.specs.task_networks.Tree.{Address, IsAbove}

pub is_same_address : (p q : Address) → Dec (p ≡ q)
is_same_address [] [] = yes refl
is_same_address [] (j ∷ q) = no (λ e. cc)
is_same_address (i ∷ p) [] = no (λ e. cc)
is_same_address (i ∷ p) (j ∷ q) = go (ℕ_discrete i j) (is_same_address p q)
  where
    go : Dec (i ≡ j) → Dec (p ≡ q) → Dec (i ∷ p ≡ j ∷ q)
    go (yes a) (yes b) = yes cc
    go (yes a) (no b) = no (λ e. b cc)
    go (no a) d = no (λ e. a cc)

pub below-itself : (p : Address) → IsAbove p p
below-itself [] = refl
below-itself (k ∷ p) = inl refl

pub below_longer : (p u : Address) → IsAbove p u → length p ≤ length u
below_longer p [] e = rw e (omega arith)
below_longer p (k ∷ u) (inl e) = rw e (omega arith)
below_longer p (k ∷ u) (inr h) = let l = below_longer p u h in omega arith

pub below_up : (i : ℕ) (p u : Address) → IsAbove (i ∷ p) u → IsAbove p u
below_up i p [] e = absurd cc
below_up i p (k ∷ u) (inl e) = let f : p ≡ u = cc in inr (subst (λ x. IsAbove p x) f (below-itself p))
below_up i p (k ∷ u) (inr h) = inr (below_up i p u h)

-- the subtrees of two siblings have nothing in common
pub same_sibling : (i j : ℕ) (p u : Address) → IsAbove (i ∷ p) u → IsAbove (j ∷ p) u → i ≡ j
same_sibling i j p [] e f = absurd cc
same_sibling i j p (k ∷ u) (inl e) (inl f) = cc
same_sibling i j p (k ∷ u) (inl e) (inr f) = let g : p ≡ u = cc in absurd (let l = below_longer (j ∷ p) u f in let k = ap length g in omega arith)
same_sibling i j p (k ∷ u) (inr e) (inl f) = let g : p ≡ u = cc in absurd (let l = below_longer (i ∷ p) u e in let k = ap length g in omega arith)
same_sibling i j p (k ∷ u) (inr e) (inr f) = same_sibling i j p u e f

pub not-below_parent : (i : ℕ) (p : Address) → IsAbove (i ∷ p) p → ⊥
not-below_parent i p h = let l = below_longer (i ∷ p) p h in omega arith

pub below_cases : (p u : Address) → IsAbove p u → (u ≡ p) ⊎ ((k : ℕ) × IsAbove (k ∷ p) u)
below_cases p [] e = inl (sym e)
below_cases p (k ∷ u) (inl e) = inl (sym e)
below_cases p (k ∷ u) (inr h) = go (below_cases p u h)
  where
    go : (u ≡ p) ⊎ ((k' : ℕ) × IsAbove (k' ∷ p) u) → (k ∷ u ≡ p) ⊎ ((k' : ℕ) × IsAbove (k' ∷ p) (k ∷ u))
    go (inl e) = inr (k, inl (ap (λ x. k ∷ x) (sym e)))
    go (inr (k', b)) = inr (k', inr b)

pub is_below : (p u : Address) → Dec (IsAbove p u)
is_below p [] = is_same_address p []
is_below p (k ∷ u) = go (is_same_address p (k ∷ u)) (is_below p u)
  where
    go : Dec (p ≡ k ∷ u) → Dec (IsAbove p u) → Dec ((p ≡ k ∷ u) ⊎ IsAbove p u)
    go (yes e) d = yes (inl e)
    go (no e) (yes b) = yes (inr b)
    go (no e) (no b) = no (λ h. elim h [ inl x ↦ e x | inr x ↦ b x ])

pub below_below : (a p u : Address) → IsAbove a p → IsAbove p u → IsAbove a u
below_below a p [] b e = subst (IsAbove a) e b
below_below a p (k ∷ u) b (inl e) = subst (IsAbove a) e b
below_below a p (k ∷ u) b (inr c) = inr (below_below a p u b c)
