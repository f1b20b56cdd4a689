-- Chains as pairs are added, and the pair that is refused.
use Rattle.std.proofs.Common.{ℕ, ◌≡◌, ◌+◌, ◌<◌, ◌↔◌, ◌⊎◌, inl, inr, List, [], ◌∷◌, ◌++◌, length, Bool, true, false, IsTrue, take, drop, get_or, set, sym, subst, ap, ◌∙◌, arith, length-take-le, append_assoc, take-append-drop, get_or-set_same, get_or-set_other}
use Rattle.std.proofs.lemmas.List.{take_more, drop_more}
use Rattle.std.proofs.lemmas.Bool.{cases_eq}
use Rattle.plan_model.specs.declared.networks.Pair.{Pair}
use Rattle.plan_model.specs.task_networks.Order.{Precedes, IsAcyclic, Closes, IsFirstClosing}
use Rattle.plan_model.proofs.task_networks.Lists.{by_push, not-in_empty}
use Rattle.plan_model.proofs.task_networks.Orders.{last_pair}
use Rattle.plan_model.specs.net_order.Marks.{has}
use Rattle.plan_model.specs.Pairs.{pair, Pairs}
use Rattle.plan_model.proofs.net_order.Chains.{wider, chain_cases, chain_by_last, acyclic_push, cyclic_push, acyclic_fewer}

-- the set of what precedes i, and i itself
pub has_added : (s : List Bool) (i a : ℕ) → i < length s → IsTrue (has (set s i true) a) ↔ ((a ≡ i) ⊎ IsTrue (has s a))
has_added s i a l = go (cases_eq a i)
  where
    go : ((a ≡ i) ⊎ (a ≡ i → ⊥)) → IsTrue (has (set s i true) a) ↔ ((a ≡ i) ⊎ IsTrue (has s a))
    go (inl e) = ((λ x. inl e), λ x. subst (λ y. has (set s i true) y ≡ true) (sym e) (get_or-set_same s i true false l))
    go (inr d) = let e = get_or-set_other s i a true false d in ((λ x. inr (sym e ∙ x)), λ x. elim x [ inl f ↦ absurd (d f) | inr f ↦ e ∙ f ])

module _ (pairs : List Pair) (k : ℕ) (d : Pair) (l : k < length pairs) where
  abbrev here : Pair
  here = get_or pairs k d

  parts : pairs ≡ take k pairs ++ here ∷ drop (k + 1) pairs
  parts = sym (take-append-drop k pairs) ∙ ap (λ z. take k pairs ++ z) (drop_more pairs k d l)

  pub refused_at : IsAcyclic (Pairs (take k pairs)) → Closes pair (take k pairs) (get_or pairs k d).first (get_or pairs k d).then → IsFirstClosing pair pairs k × (IsAcyclic (Pairs pairs) → ⊥)
  refused_at acyclic closes = (
    record { before = take k pairs; first = here.first; second = here.then; rest = drop (k + 1) pairs; parts = parts; place = length-take-le k pairs (omega arith); acyclic = acyclic; closes = closes },
    λ h. cyclic_push (take k pairs) here closes (acyclic_fewer (take k pairs ++ here ∷ []) (drop (k + 1) pairs) (subst (λ ps. IsAcyclic (Pairs ps)) (parts ∙ cut) h)),
  )
    where
      cut : take k pairs ++ here ∷ drop (k + 1) pairs ≡ (take k pairs ++ here ∷ []) ++ drop (k + 1) pairs
      cut = sym (append_assoc (take k pairs) (here ∷ []) (drop (k + 1) pairs))

-- whether there is a chain
pub decide_chain : (ps : List Pair) (a b : ℕ) → Precedes (Pairs ps) a b ⊎ (Precedes (Pairs ps) a b → ⊥)
decide_chain ps = by_push (λ qs. (a b : ℕ) → Precedes (Pairs qs) a b ⊎ (Precedes (Pairs qs) a b → ⊥)) none step ps
  where
    none : (a b : ℕ) → Precedes (Pairs []) a b ⊎ (Precedes (Pairs []) a b → ⊥)
    none a b = inr (λ c. elim (last_pair a b c) [ inl h ↦ not-in_empty (pair a b) h | inr x ↦ not-in_empty (pair x.0 b) x.2 ])

    step : (qs : List Pair) (p : Pair) → ((a b : ℕ) → Precedes (Pairs qs) a b ⊎ (Precedes (Pairs qs) a b → ⊥)) → (a b : ℕ) → Precedes (Pairs (qs ++ p ∷ [])) a b ⊎ (Precedes (Pairs (qs ++ p ∷ [])) a b → ⊥)
    step qs p f a b = go (f a b) (either (cases_eq b p.then) (f p.then b)) (either (cases_eq a p.first) (f a p.first))
      where
        either : {A B : Type 0} → A ⊎ (A → ⊥) → B ⊎ (B → ⊥) → (A ⊎ B) ⊎ (A ⊎ B → ⊥)
        either (inl x) y = inl (inl x)
        either (inr x) (inl y) = inl (inr y)
        either (inr x) (inr y) = inr (λ z. elim z [ inl u ↦ x u | inr u ↦ y u ])

        After : Type 0
        After = (b ≡ p.then) ⊎ Precedes (Pairs qs) p.then b

        Before : Type 0
        Before = (a ≡ p.first) ⊎ Precedes (Pairs qs) a p.first

        go : Precedes (Pairs qs) a b ⊎ (Precedes (Pairs qs) a b → ⊥) → After ⊎ (After → ⊥) → Before ⊎ (Before → ⊥) → Precedes (Pairs (qs ++ p ∷ [])) a b ⊎ (Precedes (Pairs (qs ++ p ∷ [])) a b → ⊥)
        go (inl c) x y = inl (wider qs (p ∷ []) a b c)
        go (inr n) (inl x) (inl y) = inl (chain_by_last qs p a b (x, y))
        go (inr n) (inl x) (inr y) = inr (λ c. elim (chain_cases qs p a b c) [ inl d ↦ n d | inr d ↦ y d.1 ])
        go (inr n) (inr x) y = inr (λ c. elim (chain_cases qs p a b c) [ inl d ↦ n d | inr d ↦ x d.0 ])

-- where the first k pairs have no cycle and one more makes one, it closes that
pub first_at : (pairs : List Pair) (k : ℕ) (d : Pair) → k < length pairs → IsAcyclic (Pairs (take k pairs)) → (IsAcyclic (Pairs (take (k + 1) pairs)) → ⊥) → IsFirstClosing pair pairs k
first_at pairs k d l acyclic cyclic = (refused_at pairs k d l acyclic (go (cases_eq p.first p.then) (decide_chain (take k pairs) p.then p.first))).0
  where
    p : Pair
    p = get_or pairs k d

    go : ((p.first ≡ p.then) ⊎ (p.first ≡ p.then → ⊥)) → Precedes (Pairs (take k pairs)) p.then p.first ⊎ (Precedes (Pairs (take k pairs)) p.then p.first → ⊥) → Closes pair (take k pairs) p.first p.then
    go (inl e) r = inl e
    go (inr n) (inl c) = inr c
    go (inr n) (inr f) = absurd (cyclic (subst (λ ps. IsAcyclic (Pairs ps)) (sym (take_more pairs k d l)) (acyclic_push (take k pairs) p acyclic n f)))

pub acyclic_none : IsAcyclic (Pairs [])
acyclic_none i c = elim (last_pair i i c) [ inl h ↦ not-in_empty (pair i i) h | inr x ↦ not-in_empty (pair x.0 i) x.2 ]
