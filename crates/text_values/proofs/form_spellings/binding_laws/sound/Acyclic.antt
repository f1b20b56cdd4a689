-- A network in which no pair closes a cycle has none.
use Rattle.std.proofs.Common.{ℕ, ◌≡◌, ◌<◌, ◌≤◌, inl, inr, List, [], ◌∷◌, ◌++◌, length, Option, Some, None, refl, sym, ap, subst, ◌∙◌, Contains, append_assoc, append-nil, arith}
use Rattle.std.specs.Prelude.{◌⊎◌, flat_map}
use Rattle.std.proofs.lemmas.List.Concat.{flat_map-append}
use Rattle.std.proofs.lemmas.Option.{slice_get_cases}
use Rattle.htn_base.specs.Limits.{most_subtasks}
use Rattle.plan_model.specs.task_networks.Order.{Precedes, direct, through, IsAcyclic}
use Rattle.plan_model.specs.declared.networks.Pair.{Pair}
use Rattle.plan_model.specs.Pairs.{pair, Pairs}
use Rattle.plan_texts.specs.Networks.{chain_if}
use Rattle.plan_model.proofs.net_order.Chains.{chain_map, acyclic_push}
use Rattle.hddl_reader.specs.declared.networks.RawNet.{RawNet}
use Rattle.hddl_reader.specs.declared.networks.RawPair.{RawPair}
use Rattle.hddl_reader.specs.declared.networks.RawSub.{RawSub}
use Rattle.hddl_bind.specs.Cycle.{ClosesOrder, CyclicOrder, IsCycle, cycle_faults, limit_at, limit_faults}
use Rattle.hddl_bind.specs.Pairs.{first_of, second_of, written, pairs_bound}
use Rattle.hddl_bind.proofs.Closing.{IsKnown, places, known_or_none, written_is, all_in_ordered, chained_step}
use Rattle.text_values.proofs.form_spellings.binding_laws.NoTypeCycle.{none_is_first}

-- no place of a cycle, where its faults are none
pub none_cyclic : (n : RawNet) (o : Option ℕ) → IsCycle n o → cycle_faults o ≡ [] → (at : ℕ) → CyclicOrder n at → ⊥
none_cyclic n None is e = is
none_cyclic n (Some at) is e = absurd (cc)

-- no subtask past the limit
pub few_subtasks : (subs : List RawSub) → limit_faults subs ≡ [] → length subs ≤ most_subtasks
few_subtasks subs e = elim (slice_get_cases subs most_subtasks).1 [
  | inl (s, l, f, g) ↦ absurd (let h = sym e ∙ ap limit_at f in cc)
  | inr (l, f) ↦ l
]

module _ (n : RawNet) where
  abbrev place : RawPair → ℕ
  place x = x.at

  abbrev chained : List Pair
  chained = chain_if n.ordered (length n.subs)

  abbrev all : List RawPair → List Pair
  all xs = chained ++ flat_map (written n.subs) xs

  all_more : (xs : List RawPair) (x : RawPair) → all (xs ++ x ∷ []) ≡ all xs ++ (written n.subs x ++ [])
  all_more xs x = ap (λ zs. chained ++ zs) (flat_map-append (written n.subs) xs (x ∷ [])) ∙ sym (append_assoc chained (flat_map (written n.subs) xs) (written n.subs x ++ []))

  one_more : (front : List RawPair) (x : RawPair) → IsAcyclic (Pairs (all front)) → (ClosesOrder n front x → ⊥) → IsAcyclic (Pairs (all (front ++ x ∷ [])))
  one_more front x acyclic open_ = subst (λ ps. IsAcyclic (Pairs ps)) (sym (all_more front x)) (go (known_or_none (first_of n.subs) (second_of n.subs) place x))
    where
      go : IsKnown (first_of n.subs) (second_of n.subs) place x ⊎ ((written n.subs x ≡ []) × (places (first_of n.subs) (second_of n.subs) place x ≡ [])) → IsAcyclic (Pairs (all front ++ (written n.subs x ++ [])))
      go (inl k) =
          subst (λ ps. IsAcyclic (Pairs (all front ++ (ps ++ [])))) (sym (written_is (first_of n.subs) (second_of n.subs) place x k.one k.other k.pair_is))
          (acyclic_push (all front) (pair k.one k.other) acyclic (λ e. open_ (k.one, k.other, k.pair_is, inl e))
          (λ c. open_ (k.one, k.other, k.pair_is, inr (chain_map (λ i j h. direct (all_in_ordered (first_of n.subs) (second_of n.subs) place n.ordered (length n.subs) front i j h)) k.other k.one c))))
      go (inr none) =
          subst (λ ps. IsAcyclic (Pairs (all front ++ (ps ++ [])))) (sym none.0)
          (subst (λ ps. IsAcyclic (Pairs ps)) (sym (append-nil (all front))) acyclic)

  -- the chain goes up
  chain_up : (i j : ℕ) → Precedes (Pairs (all [])) i j → i < j
  chain_up i j c = go j c
    where
      step : (k m : ℕ) → Pairs (all []) k m → k < m
      step k m h =
          let s = chained_step (first_of n.subs) (second_of n.subs) place n.ordered (length n.subs) k m (subst (λ ps. Contains ps (pair k m)) (append-nil chained) h) in
          let e = s.1 in
          omega arith

      go : (j : ℕ) → Precedes (Pairs (all [])) i j → i < j
      go j (direct h) = step i j h
      go j (through {j = k} c h) = let l = go k c in let m = step k j h in omega arith

  chain_only : IsAcyclic (Pairs (all []))
  chain_only i c = let l = chain_up i i c in omega arith

  along : ((front rest : List RawPair) (x : RawPair) → n.pairs ≡ front ++ x ∷ rest → ClosesOrder n front x → ⊥) → (front rest : List RawPair) → IsAcyclic (Pairs (all front)) → n.pairs ≡ front ++ rest → IsAcyclic (Pairs (all (front ++ rest)))
  along none front [] a e = subst (λ xs. IsAcyclic (Pairs (all xs))) (sym (append-nil front)) a
  along none front (x ∷ rest) a e =
      subst (λ xs. IsAcyclic (Pairs (all xs))) (append_assoc front (x ∷ []) rest)
      (along none (front ++ x ∷ []) rest (one_more front x a (none front rest x e)) (e ∙ sym (append_assoc front (x ∷ []) rest)))

  pub pairs_acyclic : length n.subs ≤ most_subtasks → ((at : ℕ) → CyclicOrder n at → ⊥) → IsAcyclic (Pairs (pairs_bound n))
  pairs_acyclic few none = along (λ front rest x e c. none_is_first (ClosesOrder n) n.pairs (λ x f. none x.at (few, (x, refl, f))) front rest x e c) [] n.pairs chain_only refl
