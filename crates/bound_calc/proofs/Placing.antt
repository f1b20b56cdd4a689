-- The methods of reached tasks, as far as they are listed; and sorted.
use Rattle.std.proofs.Common.{ℕ, ◌≡◌, ◌+◌, ◌<◌, ◌≤◌, ◌⊎◌, ◌↔◌, inl, inr, List, [], ◌∷◌, ◌++◌, length, get_or, slice_get, Some, false, Ordering, refl, ap, sym, subst, ◌∙◌, Contains, arith}
use Rattle.std.specs.List.Sorted.{IsSorted, IsPermutation}
use Rattle.std.specs.Ordering.{nat_cmp, ordering_then, is_lt}
use Rattle.std.proofs.lemmas.List.Sorted.{IsNonDecreasingBy-from_all_adjacent, Contains-permutation, IsPermutation-sym}
use Rattle.std.proofs.lemmas.List.Elements.{Contains-append_left, Contains-push, Contains-push_cases}
use Rattle.std.proofs.lemmas.Option.{same_Some, slice_get_within, get_or_from_slice_get}
use Rattle.plan_model.proofs.task_networks.BoundLaws.{by_size}
use Rattle.plan_model.specs.declared.schemas.MethodPlan.{MethodPlan}
use Rattle.plan_model.specs.declared.values.Compiled.{Compiled}
use Rattle.plan_model.specs.plan_meaning.Network.{top_task}
use Rattle.plan_model.specs.plan_meaning.Strata.{IsReachedTask}
use Rattle.bound_calc.specs.declared.stratifier.ranks.Ranks.{Ranks}
use Rattle.bound_calc.specs.stratifier.Conditions.{IsSmallCompiled, IsNumbered}
use Rattle.bound_calc.specs.stratifier.Stratified.{number_of}
use Rattle.bound_calc.specs.ByRank.{IsPlace, AreByRank}

-- the places of the first k methods
pub record ArePlaced (c : Compiled) (ranks : Ranks) (k : ℕ) (places : List (ℕ × ℕ)) : Type 0 where
  pub each : (place : ℕ × ℕ) → Contains places place ↔ ((place.1 < k) × IsPlace c ranks place)

module _ (c : Compiled) (ranks : Ranks) where
  -- a method of a reached task
  pub placed_more : (k : ℕ) (places more : List (ℕ × ℕ)) (plan : MethodPlan) → slice_get c.methods k ≡ Some plan → IsReachedTask c plan.schema.task → ArePlaced c ranks k places
      → more ≡ places ++ (number_of ranks plan.schema.task, k) ∷ [] → ArePlaced c ranks (k + 1) more
  placed_more k places more plan is r h e = record { each = each }
    where
      here : ℕ × ℕ
      here = (number_of ranks plan.schema.task, k)

      last : (place : ℕ × ℕ) → place ≡ (number_of ranks plan.schema.task, k) → (place.1 < k + 1) × IsPlace c ranks place
      last place f = subst (λ (z : ℕ × ℕ). (z.1 < k + 1) × IsPlace c ranks z) (sym f) (omega arith, (plan, is, r, refl))

      same_place : (place : ℕ × ℕ) → place.1 ≡ k → IsPlace c ranks place → place ≡ (number_of ranks plan.schema.task, k)
      same_place place f (other, g, s, n) =
          let p : other ≡ plan = same_Some other plan (sym g ∙ ap (slice_get c.methods) f ∙ is) in
          let q : place.0 ≡ number_of ranks plan.schema.task = sym n ∙ ap (λ (z : MethodPlan). number_of ranks z.schema.task) p in
          λ i. (q i, f i)

      each : (place : ℕ × ℕ) → Contains more place ↔ ((place.1 < k + 1) × IsPlace c ranks place)
      each place = (
        λ d. elim (Contains-push_cases places (number_of ranks plan.schema.task, k) place (subst (λ s. Contains s place) e d)) [
          | inl old ↦ (let p = (h.each place).0 old in (let l = p.0 in omega arith, p.1))
          | inr new ↦ last place (sym new)
        ],
        λ p. subst (λ s. Contains s place) (sym e) (go (by_size place.1 k) p),
      )
        where
          go : (place.1 < k) ⊎ ((place.1 ≡ k) ⊎ (k < place.1)) → (place.1 < k + 1) × IsPlace c ranks place → Contains (places ++ (number_of ranks plan.schema.task, k) ∷ []) place
          go (inl l) p = Contains-append_left places ((number_of ranks plan.schema.task, k) ∷ []) place ((h.each place).1 (l, p.1))
          go (inr (inl f)) p = subst (Contains (places ++ (number_of ranks plan.schema.task, k) ∷ [])) (sym (same_place place f p.1)) (Contains-push places (number_of ranks plan.schema.task, k))
          go (inr (inr l)) p = absurd (let x = p.0 in omega arith)

  -- a method of another task
  pub placed_same : (k : ℕ) (places : List (ℕ × ℕ)) (plan : MethodPlan) → slice_get c.methods k ≡ Some plan → (IsReachedTask c plan.schema.task → ⊥) → ArePlaced c ranks k places → ArePlaced c ranks (k + 1) places
  placed_same k places plan is none h = record {
    each = λ place. (
      λ d. (let p = (h.each place).0 d in (let l = p.0 in omega arith, p.1)),
      λ p. (h.each place).1 (go place (by_size place.1 k) p, p.1),
    );
  }
    where
      go : (place : ℕ × ℕ) → (place.1 < k) ⊎ ((place.1 ≡ k) ⊎ (k < place.1)) → (place.1 < k + 1) × IsPlace c ranks place → place.1 < k
      go place (inl l) p = l
      go place (inr (inl f)) (x, (other, g, s, n)) = absurd (none (subst (λ (z : MethodPlan). IsReachedTask c z.schema.task) (same_Some other plan (sym g ∙ ap (slice_get c.methods) f ∙ is)) s))
      go place (inr (inr l)) p = absurd (let x = p.0 in omega arith)

  pub placed_all : (k : ℕ) (places sorted : List (ℕ × ℕ)) → length c.methods ≤ k → ArePlaced c ranks k places → IsPermutation places sorted
      → IsSorted (λ (x y : ℕ × ℕ). ordering_then (nat_cmp x.0 y.0) (nat_cmp x.1 y.1)) sorted → AreByRank c ranks sorted
  placed_all k places sorted l h moved up = record {
    all = λ place. (
      λ d. ((h.each place).0 (Contains-permutation sorted places place (IsPermutation-sym places sorted moved) d)).1,
      λ p. Contains-permutation places sorted place moved ((h.each place).1 (let x = slice_get_within c.methods place.1 p.0 p.1 in omega arith, p)),
    );
    rising = IsNonDecreasingBy-from_all_adjacent (λ (place : ℕ × ℕ). place.0) sorted (λ i d m. not_less (get_or sorted i d) (get_or sorted (i + 1) d) (up i d (omega arith) m));
  }
    where
      not_less : (x y : ℕ × ℕ) → is_lt (ordering_then (nat_cmp y.0 x.0) (nat_cmp y.1 x.1)) ≡ false → x.0 ≤ y.0
      not_less x y e = elim (by_size x.0 y.0) [ inl m ↦ omega arith | inr m ↦ elim m [ inl f ↦ omega arith | inr m ↦ absurd (less (x.0) (y.0) (nat_cmp y.1 x.1) m e) ] ]
        where
          less : (a b : ℕ) (o : Ordering) → b < a → is_lt (ordering_then (nat_cmp b a) o) ≡ false → ⊥
          less a b o l e = grind arith

  -- a method's task is up to the top task
  pub task_below : IsSmallCompiled c → (k : ℕ) (plan : MethodPlan) → slice_get c.methods k ≡ Some plan → plan.schema.task ≤ top_task c
  task_below small k plan is = (subst (IsNumbered (top_task c)) (get_or_from_slice_get c.methods k plan plan is) (small.numbered k plan (slice_get_within c.methods k plan is))).task
