-- Bounds, cycles and rankings, worked out.
use Rattle.std.proofs.Common.{ℕ, zero, suc, ◌≡◌, ◌-◌, ◌<◌, ◌≤◌, ◌⊎◌, inl, inr, List, [], ◌∷◌, length, refl, ap, sym, subst, arith}
use Rattle.plan_model.specs.task_networks.Bound.{block_number, IsAloneAtTheEnd, Counts, IsTheBound, IsReached, itself, AreLargeEnough}
use Rattle.plan_model.specs.task_networks.Strata.{IsNamedCycle, IsWalk, ComesFirst, IsLawfulRanking}
use Rattle.plan_model.proofs.task_networks.examples.Nets.{tail, TailMethod, TailWork, tail_t, tail_a, again, IsTailAction, stop}
use Rattle.plan_model.proofs.task_networks.Lists.{not-in_empty, head_or_tail}

-- the bound of t in t -> a < t is 2: the last block, with t alone, is left out
module _ where
  abbrev tail_block : TailMethod → ℕ → ℕ
  tail_block m i = i

  abbrev tail_number : TailWork → ℕ
  tail_number tail_t = 2
  tail_number tail_a = 1

  first_block : block_number tail tail_block tail_number again 0 ≡ 2
  first_block = refl

  -- the groups of tail: t alone, and a alone
  abbrev tail_group : TailWork → ℕ
  tail_group tail_t = 0
  tail_group tail_a = 1

  at_the_end : IsAloneAtTheEnd tail tail_block tail_number again 1 tail_t
  at_the_end = record { child = 1; is = refl; in_block = refl; earlier = λ i l n. omega arith }

  first_counts : Counts tail tail_block tail_number tail_group again 0
  first_counts = (omega arith, λ w o e. (let b = o.in_block in let c = o.earlier 1 (omega arith) (omega arith) in omega arith))

  tail_bound : IsTheBound tail tail_block tail_number tail_group tail_t
  tail_bound = record { simple = λ w r. simple w; positive = λ w r. positive w; above = λ w m i r g q. above w m i; attained = λ w r. attained w }
    where
      simple : (w : TailWork) → IsTailAction w → tail_number w ≡ 1
      simple tail_t h = absurd h
      simple tail_a h = refl

      positive : (w : TailWork) → 1 ≤ tail_number w
      positive tail_t = omega arith
      positive tail_a = omega arith

      above : (w : TailWork) (m : TailMethod) (i : ℕ) → tail_group w ≡ 0 → Counts tail tail_block tail_number tail_group m i → block_number tail tail_block tail_number m i ≤ tail_number w
      above tail_a m i e c = absurd (omega arith)
      above tail_t again zero e c = omega arith
      above tail_t again (suc zero) e c = absurd (c.1 tail_t at_the_end refl)
      above tail_t again (suc (suc i)) e c = absurd (let l = c.0 in omega arith)
      above tail_t stop i e c = absurd (let l = c.0 in omega arith)

      attained : (w : TailWork) → (tail_number w ≡ 1) ⊎ ((m : TailMethod) × (i : ℕ) × Unit {0} × IsReached tail tail_t tail_t × (tail_group w ≡ 0) × Counts tail tail_block tail_number tail_group m i × (block_number tail tail_block tail_number m i ≡ tail_number w))
      attained tail_t = inr (again, 0, tt, itself, refl, first_counts, refl)
      attained tail_a = inl refl

  abbrev too_small : TailWork → ℕ
  too_small w = 1

  -- one isn't enough: after t is decomposed, a and t are pending
  not_one : AreLargeEnough tail tail_block too_small tail_t → ⊥
  not_one h = let l = h.enough again 0 tt itself (omega arith) (λ w o s. (let b = o.in_block in let c = o.earlier 1 (omega arith) (omega arith) in omega arith)) in omega arith

-- edges: t -> u by a child that isn't last, u -> t by one that is
module _ where
  abbrev from_task : ℕ → ℕ
  from_task e = e

  abbrev to_task : ℕ → ℕ
  to_task zero = 1
  to_task (suc e) = 0

  abbrev IsBadEdge : ℕ → Type 0
  IsBadEdge zero = Unit {0}
  IsBadEdge (suc e) = ⊥

  around : IsNamedCycle from_task to_task (0 ∷ 1 ∷ []) IsBadEdge 0 (1 ∷ [])
  around = record {
    cycle = ((0, omega arith, refl), tt, (refl, (1, omega arith, refl), refl));
    before = [];
    after = 1 ∷ [];
    parts = refl;
    none_before = λ d back c b. not-in_empty d c;
    shortest = shortest;
    first = first;
  }
    where
      shortest : (back : List ℕ) → IsWalk from_task to_task (0 ∷ 1 ∷ []) 1 back 0 → 1 ≤ length back
      shortest [] e = absurd (omega arith)
      shortest (x ∷ back) w = omega arith

      first : (back : List ℕ) → IsWalk from_task to_task (0 ∷ 1 ∷ []) 1 back 0 → length back ≡ 1 → (1 ∷ [] ≡ back) ⊎ ComesFirst from_task to_task (0 ∷ 1 ∷ []) (1 ∷ []) back
      first [] w l = absurd (omega arith)
      first (x ∷ []) w l = let e : x ≡ 1 = w.0 in inl (ap (λ z. z ∷ []) (sym e))
      first (x ∷ y ∷ back) w l = absurd (omega arith)

  -- t -> u alone goes down
  down : IsLawfulRanking from_task to_task (0 ∷ []) IsBadEdge (λ x. 1 - x)
  down e c = elim (head_or_tail 0 [] e c) [ inl f ↦ inl (subst (λ z. 1 - to_task z < 1 - from_task z) f (omega arith)) | inr d ↦ absurd (not-in_empty e d) ]
