-- Reaching over a list of edges is decided, edge by edge.
use Rattle.std.proofs.Common.{◌≡◌, ◌⊎◌, inl, inr, List, [], ◌∷◌, refl, sym, subst, ◌∙◌, Contains}
use Rattle.plan_model.specs.task_networks.Strata.{IsWalk, Reaches}
use Rattle.plan_model.proofs.task_networks.Lists.{Contains-here, Contains-later, not-in_empty, head_or_tail}
use Rattle.slot_machine.proofs.bound_laws.Decided.{AreTold}

module _ {Task Edge : Type 0} (source target : Edge → Task) where
  pub reaches_on : (edges : List Edge) (x y z : Task) → Reaches source target edges x y → Reaches source target edges y z → Reaches source target edges x z
  reaches_on edges x y z (walk, w) h = on x walk w
    where
      on : (x : Task) (walk : List Edge) → IsWalk source target edges x walk y → Reaches source target edges x z
      on x [] e = subst (λ s. Reaches source target edges s z) (sym e) h
      on x (e ∷ walk) v = let r = on (target e) walk v.2 in (e ∷ r.0, (v.0, v.1, r.1))

  pub by_edge : (edges : List Edge) (e : Edge) → Contains edges e → Reaches source target edges (source e) (target e)
  by_edge edges e c = (e ∷ [], (refl, c, refl))

  with_more : (e : Edge) (edges : List Edge) (x y : Task) → Reaches source target edges x y → Reaches source target (e ∷ edges) x y
  with_more e edges x y (walk, w) = (walk, on x walk w)
    where
      on : (x : Task) (walk : List Edge) → IsWalk source target edges x walk y → IsWalk source target (e ∷ edges) x walk y
      on x [] f = f
      on x (d ∷ walk) v = (v.0, Contains-later e edges d v.1, on (target d) walk v.2)

  -- a walk doesn't take the first edge, or comes to its start and goes on from its end without it
  abbrev IsSplit : Edge → List Edge → Task → Task → Type 0
  IsSplit e edges x y = Reaches source target edges x y ⊎ (Reaches source target edges x (source e) × Reaches source target edges (target e) y)

  split : (e : Edge) (edges : List Edge) (x y : Task) (walk : List Edge) → IsWalk source target (e ∷ edges) x walk y → IsSplit e edges x y
  split e edges x y [] f = inl ([], f)
  split e edges x y (d ∷ walk) v = go (head_or_tail e edges d v.1) (split e edges (target d) y walk v.2)
    where
      first : Contains edges d → (z : Task) → Reaches source target edges (target d) z → Reaches source target edges x z
      first c z r = (d ∷ r.0, (v.0, c, r.1))

      at_start : e ≡ d → Reaches source target edges x (source e)
      at_start f = ([], sym v.0 ∙ (λ k. source (sym f k)))

      go : (e ≡ d) ⊎ Contains edges d → IsSplit e edges (target d) y → IsSplit e edges x y
      go (inl f) (inl r) = inr (at_start f, subst (λ z. Reaches source target edges (target z) y) (sym f) r)
      go (inl f) (inr (r, s)) = inr (at_start f, s)
      go (inr c) (inl r) = inl (first c y r)
      go (inr c) (inr (r, s)) = inr (first c (source e) r, s)

  join : (e : Edge) (edges : List Edge) (x y : Task) → IsSplit e edges x y → Reaches source target (e ∷ edges) x y
  join e edges x y (inl r) = with_more e edges x y r
  join e edges x y (inr (r, s)) =
      reaches_on (e ∷ edges) x (source e) y (with_more e edges x (source e) r)
      (reaches_on (e ∷ edges) (source e) (target e) y (by_edge (e ∷ edges) e (Contains-here e edges)) (with_more e edges (target e) y s))

  pub reaches_or_not : AreTold Task → (edges : List Edge) (x y : Task) → Reaches source target edges x y ⊎ (Reaches source target edges x y → ⊥)
  reaches_or_not told [] x y = go (told x y)
    where
      none : (walk : List Edge) → IsWalk source target [] x walk y → x ≡ y
      none [] e = e
      none (d ∷ walk) v = absurd (not-in_empty d v.1)

      go : (x ≡ y) ⊎ (x ≡ y → ⊥) → Reaches source target [] x y ⊎ (Reaches source target [] x y → ⊥)
      go (inl e) = inl ([], e)
      go (inr n) = inr (λ r. n (none r.0 r.1))
  reaches_or_not told (e ∷ edges) x y = go (reaches_or_not told edges x y) (reaches_or_not told edges x (source e)) (reaches_or_not told edges (target e) y)
    where
      not_so : (IsSplit e edges x y → ⊥) → Reaches source target (e ∷ edges) x y → ⊥
      not_so n r = n (split e edges x y r.0 r.1)

      go : Reaches source target edges x y ⊎ (Reaches source target edges x y → ⊥)
          → Reaches source target edges x (source e) ⊎ (Reaches source target edges x (source e) → ⊥)
          → Reaches source target edges (target e) y ⊎ (Reaches source target edges (target e) y → ⊥)
          → Reaches source target (e ∷ edges) x y ⊎ (Reaches source target (e ∷ edges) x y → ⊥)
      go (inl r) s t = inl (join e edges x y (inl r))
      go (inr n) (inl s) (inl t) = inl (join e edges x y (inr (s, t)))
      go (inr n) (inr s) t = inr (not_so (λ z. elim z [ inl a ↦ n a | inr a ↦ s a.0 ]))
      go (inr n) (inl s) (inr t) = inr (not_so (λ z. elim z [ inl a ↦ n a | inr a ↦ t a.1 ]))
