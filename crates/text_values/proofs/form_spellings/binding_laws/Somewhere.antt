-- Faults of what stands in one of several places.
use Rattle.std.proofs.Common.{◌≡◌, inl, inr, List, [], ◌∷◌, subst}
use Rattle.std.specs.Prelude.{◌⊎◌}
use Rattle.htn_base.specs.Lists.{One}
use Rattle.hddl_reader.specs.names.Uses.{Scope, Use}

module _ (Q : Scope → Use → Type 0) where
  abbrev pub Somewhere : (Scope → Use → Type 0) → Type 0
  Somewhere P = (here : Scope) × (u : Use) × P here u × Q here u

  pub either_there : (P R : Scope → Use → Type 0) → Somewhere (λ here u. P here u ⊎ R here u) → Somewhere P ⊎ Somewhere R
  either_there P R (here, u, inl p, q) = inl (here, u, p, q)
  either_there P R (here, u, inr r, q) = inr (here, u, r, q)

  pub either_left : (P R : Scope → Use → Type 0) → Somewhere P → Somewhere (λ here u. P here u ⊎ R here u)
  either_left P R (here, u, p, q) = (here, u, inl p, q)

  pub either_right : (P R : Scope → Use → Type 0) → Somewhere R → Somewhere (λ here u. P here u ⊎ R here u)
  either_right P R (here, u, r, q) = (here, u, inr r, q)

  pub one_there : {X : Type 0} (P : X → Scope → Use → Type 0) (xs : List X) → Somewhere (λ here u. One (λ x. P x here u) xs) → One (λ x. Somewhere (P x)) xs
  one_there P [] (here, u, p, q) = absurd p
  one_there P (x ∷ xs) (here, u, inl p, q) = inl (here, u, p, q)
  one_there P (x ∷ xs) (here, u, inr p, q) = inr (one_there P xs (here, u, p, q))

  pub one_back : {X : Type 0} (P : X → Scope → Use → Type 0) (xs : List X) → One (λ x. Somewhere (P x)) xs → Somewhere (λ here u. One (λ x. P x here u) xs)
  one_back P [] h = absurd h
  one_back P (x ∷ xs) (inl h) = (h.0, h.1, inl h.2, h.3)
  one_back P (x ∷ xs) (inr h) = let g = one_back P xs h in (g.0, g.1, inr g.2, g.3)

  -- what is said of one use with these variables in force
  pub at_use : (outer here : Scope) (u w : Use) → here ≡ outer → u ≡ w → Q here u → Q outer w
  at_use outer here u w e f q = subst (λ h. Q h w) e (subst (λ x. Q here x) f q)
