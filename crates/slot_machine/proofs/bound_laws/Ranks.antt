-- Lawful ranks exist exactly where there is no bad cycle: the rank of a task is the number of edges that begin where it reaches.
use Rattle.std.proofs.Common.{ℕ, ◌≡◌, ◌+◌, ◌<◌, ◌≤◌, ◌⊎◌, inl, inr, List, [], ◌∷◌, refl, sym, subst, Contains, arith, add-le-add}
use Rattle.plan_model.specs.task_networks.Strata.{Reaches, IsTailRecursive, IsLawfulRanking}
use Rattle.plan_model.proofs.task_networks.Lists.{not-in_empty, head_or_tail}
use Rattle.slot_machine.proofs.bound_laws.Decided.{AreTold, one_if, one_if_up, one_if_more}
use Rattle.slot_machine.proofs.bound_laws.Reach.{reaches_on, by_edge, reaches_or_not}

module _ {Task Edge : Type 0} (source target : Edge → Task) (edges : List Edge) (told : AreTold Task) where
  -- how many of these edges begin where the task reaches
  abbrev pub begin_below : List Edge → Task → ℕ
  begin_below [] x = 0
  begin_below (d ∷ ds) x = one_if (reaches_or_not source target told edges x (source d)) + begin_below ds x

  abbrev pub rank_of : Task → ℕ
  rank_of = begin_below edges

  not_more : (x y : Task) → Reaches source target edges x y → (ds : List Edge) → begin_below ds y ≤ begin_below ds x
  not_more x y r [] = omega arith
  not_more x y r (d ∷ ds) = add-le-add
      (one_if_up (λ s. reaches_on source target edges x y (source d) r s) (reaches_or_not source target told edges y (source d)) (reaches_or_not source target told edges x (source d)))
      (not_more x y r ds)

  fewer : (x y : Task) → Reaches source target edges x y → (ds : List Edge) (e : Edge) → Contains ds e
      → Reaches source target edges x (source e) → (Reaches source target edges y (source e) → ⊥) → begin_below ds y < begin_below ds x
  fewer x y r [] e c s n = absurd (not-in_empty e c)
  fewer x y r (d ∷ ds) e c s n = go (λ k. fewer x y r ds e k s n) (head_or_tail d ds e c)
    where
      go : (Contains ds e → begin_below ds y < begin_below ds x) → (d ≡ e) ⊎ Contains ds e
          → one_if (reaches_or_not source target told edges y (source d)) + begin_below ds y < one_if (reaches_or_not source target told edges x (source d)) + begin_below ds x
      go later (inl f) =
          let p = one_if_more (subst (λ z. Reaches source target edges x (source z)) (sym f) s) (λ t. n (subst (λ z. Reaches source target edges y (source z)) f t))
          (reaches_or_not source target told edges y (source d)) (reaches_or_not source target told edges x (source d)) in
          let m = not_more x y r ds in
          omega arith
      go later (inr k) =
          let p = one_if_up (λ t. reaches_on source target edges x y (source d) r t) (reaches_or_not source target told edges y (source d)) (reaches_or_not source target told edges x (source d)) in
          let m = later k in
          omega arith

  pub not_up : (x y : Task) → Reaches source target edges x y → rank_of y ≤ rank_of x
  not_up x y r = not_more x y r edges

  -- an edge to a task that doesn't reach back goes down
  pub down : (e : Edge) → Contains edges e → (Reaches source target edges (target e) (source e) → ⊥) → rank_of (target e) < rank_of (source e)
  down e c n = fewer (source e) (target e) (by_edge source target edges e c) edges e c ([], refl) n

  pub ranks_are_lawful : (IsBad : Edge → Type 0) → IsTailRecursive source target edges IsBad → IsLawfulRanking source target edges IsBad rank_of
  ranks_are_lawful IsBad tail e c = go (reaches_or_not source target told edges (target e) (source e))
    where
      go : Reaches source target edges (target e) (source e) ⊎ (Reaches source target edges (target e) (source e) → ⊥)
          → (rank_of (target e) < rank_of (source e)) ⊎ ((IsBad e → ⊥) × (rank_of (target e) ≤ rank_of (source e)))
      go (inl (walk, w)) = inr (λ bad. tail e walk (c, bad, w), not_up (source e) (target e) (by_edge source target edges e c))
      go (inr n) = inl (down e c n)
