-- The cycle of a network, by what an order of its pairs says.
use Rattle.std.proofs.Common.{ℕ, ◌≡◌, ◌+◌, ◌-◌, ◌<◌, ◌≤◌, inl, inr, List, [], ◌∷◌, Some, None, length, get_or, slice_get, ap, sym, subst, ◌∙◌, length-append, arith}
use Rattle.std.proofs.lemmas.Option.{slice_get_within, get_or_from_slice_get}
use Rattle.htn_base.specs.Limits.{most_subtasks}
use Rattle.plan_model.specs.task_networks.Order.{IsAcyclic, IsFirstClosing}
use Rattle.plan_model.specs.declared.networks.Pair.{Pair}
use Rattle.plan_model.specs.Pairs.{pair, Pairs}
use Rattle.plan_texts.specs.Networks.{chain_if}
use Rattle.plan_model.specs.net_order.Meaning.{AreBelow}
use Rattle.plan_model.proofs.net_order.Chains.{below_from_pairs}
use Rattle.hddl_reader.specs.declared.networks.RawNet.{RawNet}
use Rattle.hddl_reader.specs.declared.networks.RawPair.{RawPair}
use Rattle.htn_base.specs.Lists.{One}
use Rattle.hddl_reader.proofs.names.Firsts.{one_is_first}
use Rattle.hddl_bind.specs.Pairs.{first_of, second_of, pairs_bound, pairs_at}
use Rattle.hddl_bind.specs.Cycle.{IsPair, ClosesOrder, IsCycle, CyclicOrder}
use Rattle.hddl_bind.proofs.Called.{subtask_within}
use Rattle.hddl_bind.proofs.Closing.{all_in_ordered, ClosesAt, closes_at, none_closes, none_first, length-places}

-- a network has its cycle at one place
pub one_cycle : (n : RawNet) (at at' : ℕ) → CyclicOrder n at → CyclicOrder n at' → at ≡ at'
one_cycle n at at' a b = sym a.1.1 ∙ ap (λ (x : RawPair). x.at) (one_is_first (ClosesOrder n) n.pairs a.1.0 b.1.0 a.1.2 b.1.2) ∙ b.1.1

module _ (n : RawNet) (pairs : List Pair) (offsets : List ℕ) (are : pairs ≡ pairs_bound n) (at : offsets ≡ pairs_at n) where
  abbrev place : RawPair → ℕ
  place x = x.at

  abbrev chained : ℕ
  chained = length (chain_if n.ordered (length n.subs))

  pub pairs_are_more : length pairs ≡ chained + length offsets
  pairs_are_more =
      let a = length-places (first_of n.subs) (second_of n.subs) place n.pairs in
      ap length are ∙ length-append (chain_if n.ordered (length n.subs)) _ ∙ ap (λ m. chained + m) (sym a ∙ sym (ap length at))

  one_within : (xs : List RawPair) (i j : ℕ) → One (λ x. IsPair n x i j) xs → (i < length n.subs) × (j < length n.subs)
  one_within [] i j h = absurd h
  one_within (x ∷ xs) i j (inl h) = (subtask_within x.first.name.number i n.subs h.0, subtask_within x.then.name.number j n.subs h.1)
  one_within (x ∷ xs) i j (inr h) = one_within xs i j h

  pub pairs_below : AreBelow (length n.subs) pairs
  pairs_below = subst (λ ps. AreBelow (length n.subs) ps) (sym are) (below_from_pairs (length n.subs) (pairs_bound n) (λ i j h.
      elim (all_in_ordered (first_of n.subs) (second_of n.subs) place n.ordered (length n.subs) n.pairs i j h) [
        | inl s ↦ let e = s.1 in let l = s.2 in (omega arith, omega arith)
        | inr o ↦ one_within n.pairs i j o
      ]))

  pub no_cycle : IsAcyclic (Pairs pairs) → IsCycle n None
  no_cycle acyclic place' h =
      none_first (first_of n.subs) (second_of n.subs) place n.ordered (length n.subs) n.pairs h.1.0 (subst (λ ps. IsAcyclic (Pairs ps)) are acyclic) h.1.2

  pub none_written : length offsets ≡ 0 → IsCycle n None
  none_written e place' h =
      none_closes (first_of n.subs) (second_of n.subs) place n.ordered (length n.subs) n.pairs h.1.0 (sym (ap length at) ∙ e) h.1.2

  pub record IsCycleAt (k : ℕ) : Type 0 where
    pub behind : length pairs - length offsets ≤ k
    pub within : k - (length pairs - length offsets) < length offsets
    pub cycle : CyclicOrder n (get_or offsets (k - (length pairs - length offsets)) 0)

  pub cycle_at : (k : ℕ) → length n.subs ≤ most_subtasks → IsFirstClosing pair pairs k → IsCycleAt k
  cycle_at k few f = record {
    behind = omega (arith, pairs_are_more, w.behind);
    within = slice_get_within offsets (k - (length pairs - length offsets)) (place w.item) found;
    cycle = (few, (w.item, sym (get_or_from_slice_get offsets (k - (length pairs - length offsets)) (place w.item) 0 found), w.closes));
  }
    where
      w : ClosesAt (first_of n.subs) (second_of n.subs) place n.ordered (length n.subs) n.pairs k
      w = closes_at (first_of n.subs) (second_of n.subs) place n.ordered (length n.subs) n.pairs k (subst (λ ps. IsFirstClosing pair ps k) are f)

      same : k - (length pairs - length offsets) ≡ k - chained
      same = omega (arith, pairs_are_more)

      found : slice_get offsets (k - (length pairs - length offsets)) ≡ Some (place w.item)
      found = ap (slice_get offsets) same ∙ ap (λ os. slice_get os (k - chained)) at ∙ w.at
