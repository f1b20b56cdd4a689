-- Chains of a list of pairs, and of the list with one more pair.
use Rattle.std.proofs.Common.{ℕ, ◌≡◌, ◌<◌, ◌⊎◌, inl, inr, List, [], ◌∷◌, ◌++◌, get_or, sym, subst, ap, ◌∙◌, Contains}
use Rattle.std.proofs.lemmas.List.Elements.{Contains-append_left, Contains-get_or, Contains-push, Contains-push_cases}
use Rattle.plan_model.specs.declared.networks.Pair.{Pair}
use Rattle.plan_model.specs.task_networks.Order.{Precedes, direct, through, IsAcyclic, ArePairsOf, Closes}
use Rattle.plan_model.proofs.task_networks.Orders.{precedes_then}
use Rattle.plan_model.specs.net_order.Meaning.{AreBelow}
use Rattle.plan_model.specs.Pairs.{pair, Pairs}

-- chains of pairs that are among others
pub chain_map : {P Q : ℕ → ℕ → Type 0} → ((i j : ℕ) → P i j → Precedes Q i j) → (i j : ℕ) → Precedes P i j → Precedes Q i j
chain_map f i j (direct h) = f i j h
chain_map {Q = Q} f i j (through {j = k} c h) = precedes_then {Pair = Q} i k j (chain_map f i k c) (f k j h)

pub wider : (ps qs : List Pair) (i j : ℕ) → Precedes (Pairs ps) i j → Precedes (Pairs (ps ++ qs)) i j
wider ps qs = chain_map (λ i j h. direct (Contains-append_left ps qs (pair i j) h))

pub pairs_of : (count : ℕ) (ps : List Pair) → AreBelow count ps → ArePairsOf (Pairs ps) count
pairs_of count ps below i j c =
    let h = below c.0 (pair i j) c.1 in subst (λ (p : Pair). (p.first < count) × (p.then < count)) c.2 h

pub below_from_pairs : (count : ℕ) (ps : List Pair) → ArePairsOf (Pairs ps) count → AreBelow count ps
below_from_pairs count ps within k d l = within (get_or ps k d).first (get_or ps k d).then (Contains-get_or ps k d l)

module _ (ps : List Pair) (p : Pair) where
  pub last_added : Precedes (Pairs (ps ++ p ∷ [])) p.first p.then
  last_added = direct (Contains-push ps p)

  pub among_cases : (i j : ℕ) → Pairs (ps ++ p ∷ []) i j → Pairs ps i j ⊎ ((i ≡ p.first) × (j ≡ p.then))
  among_cases i j h = elim (Contains-push_cases ps p (pair i j) h) [ inl c ↦ inl c | inr e ↦ inr (sym (ap (λ (q : Pair). q.first) e), sym (ap (λ (q : Pair). q.then) e)) ]

  pub among_push : (i j : ℕ) → i ≡ p.first → j ≡ p.then → Pairs (ps ++ p ∷ []) i j
  among_push i j e f = subst (Contains (ps ++ p ∷ [])) (sym (ap (λ x. pair x j) e ∙ ap (pair p.first) f)) (Contains-push ps p)

  abbrev pub ByLast : ℕ → ℕ → Type 0
  ByLast a b = ((b ≡ p.then) ⊎ Precedes (Pairs ps) p.then b) × ((a ≡ p.first) ⊎ Precedes (Pairs ps) a p.first)

  -- a chain of one more pair is one of the others, or goes by that pair
  pub chain_cases : (a b : ℕ) → Precedes (Pairs (ps ++ p ∷ [])) a b → Precedes (Pairs ps) a b ⊎ ByLast a b
  chain_cases a b (direct h) = elim (among_cases a b h) [ inl k ↦ inl (direct k) | inr e ↦ inr (inl e.1, inl e.0) ]
  chain_cases a c (through {j = b} d h) = go (chain_cases a b d) (among_cases b c h)
    where
      longer : ((b ≡ p.then) ⊎ Precedes (Pairs ps) p.then b) → Pairs ps b c → Precedes (Pairs ps) p.then c
      longer (inl e) k = direct (subst (λ x. Pairs ps x c) e k)
      longer (inr d') k = through d' k

      go : Precedes (Pairs ps) a b ⊎ ByLast a b → Pairs ps b c ⊎ ((b ≡ p.first) × (c ≡ p.then)) → Precedes (Pairs ps) a c ⊎ ByLast a c
      go (inl x) (inl k) = inl (through x k)
      go (inl x) (inr e) = inr (inl e.1, inr (subst (Precedes (Pairs ps) a) e.0 x))
      go (inr x) (inl k) = inr (inr (longer x.0 k), x.1)
      go (inr x) (inr e) = inr (inl e.1, x.1)

  pub chain_by_last : (a b : ℕ) → ByLast a b → Precedes (Pairs (ps ++ p ∷ [])) a b
  chain_by_last a b x = after x.0 (before x.1)
    where
      before : ((a ≡ p.first) ⊎ Precedes (Pairs ps) a p.first) → Precedes (Pairs (ps ++ p ∷ [])) a p.then
      before (inl e) = subst (λ y. Precedes (Pairs (ps ++ p ∷ [])) y p.then) (sym e) last_added
      before (inr c) = precedes_then a p.first p.then (wider ps (p ∷ []) a p.first c) last_added

      after : ((b ≡ p.then) ⊎ Precedes (Pairs ps) p.then b) → Precedes (Pairs (ps ++ p ∷ [])) a p.then → Precedes (Pairs (ps ++ p ∷ [])) a b
      after (inl e) c = subst (Precedes (Pairs (ps ++ p ∷ [])) a) (sym e) c
      after (inr d) c = precedes_then a p.then b c (wider ps (p ∷ []) p.then b d)

  -- a pair that closes no cycle makes none
  pub acyclic_push : IsAcyclic (Pairs ps) → (p.first ≡ p.then → ⊥) → (Precedes (Pairs ps) p.then p.first → ⊥) → IsAcyclic (Pairs (ps ++ p ∷ []))
  acyclic_push acyclic differ apart a c = elim (chain_cases a a c) [ inl x ↦ acyclic a x | inr x ↦ go x.0 x.1 ]
    where
      go : ((a ≡ p.then) ⊎ Precedes (Pairs ps) p.then a) → ((a ≡ p.first) ⊎ Precedes (Pairs ps) a p.first) → ⊥
      go (inl e) (inl f) = differ (sym f ∙ e)
      go (inl e) (inr d) = apart (subst (λ x. Precedes (Pairs ps) x p.first) e d)
      go (inr d) (inl f) = apart (subst (Precedes (Pairs ps) p.then) f d)
      go (inr d) (inr e) = apart (precedes_then p.then a p.first d e)

  -- a pair that closes a cycle makes one
  pub cyclic_push : Closes pair ps p.first p.then → IsAcyclic (Pairs (ps ++ p ∷ [])) → ⊥
  cyclic_push (inl e) acyclic = acyclic p.then (subst (λ x. Precedes (Pairs (ps ++ p ∷ [])) x p.then) e last_added)
  cyclic_push (inr c) acyclic = acyclic p.then (precedes_then p.then p.first p.then (wider ps (p ∷ []) p.then p.first c) last_added)

-- fewer pairs have no cycle where more have none
pub acyclic_fewer : (ps qs : List Pair) → IsAcyclic (Pairs (ps ++ qs)) → IsAcyclic (Pairs ps)
acyclic_fewer ps qs acyclic i c = acyclic i (wider ps qs i i c)
