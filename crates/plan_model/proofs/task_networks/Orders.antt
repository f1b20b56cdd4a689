-- Chains of pairs.
use Rattle.std.proofs.Common.{ℕ, zero, suc, ◌≡◌, ◌+◌, ◌<◌, ◌⊎◌, inl, inr, List, [], ◌∷◌, length, Option, Some, None, refl, ap, sym, subst, ◌∙◌, Contains, arith}
use Rattle.std.proofs.Math.Decide.{ℕ_discrete}
use Rattle.plan_model.specs.task_networks.Order.{Precedes, direct, through, ArePairsOf, Among, IsAcyclic, IsMaximal}
use Rattle.plan_model.specs.task_networks.Net.{count}
use Rattle.htn_base.specs.Different.{AreDifferent}
use Rattle.plan_model.proofs.task_networks.Different.{no_more}
use Rattle.plan_model.proofs.task_networks.Lists.{Contains-later, not-in_empty, head_or_tail}

pub precedes_then : {Pair : ℕ → ℕ → Type 0} (i j k : ℕ) → Precedes Pair i j → Precedes Pair j k → Precedes Pair i k
precedes_then i j k c (direct h) = through c h
precedes_then i j k c (through {j = l} d h) = through (precedes_then i j l c d) h

pub last_pair : {Pair : ℕ → ℕ → Type 0} (i j : ℕ) → Precedes Pair i j → Pair i j ⊎ ((k : ℕ) × Precedes Pair i k × Pair k j)
last_pair i j (direct h) = inl h
last_pair i j (through {j = k} c h) = inr (k, c, h)

pub precedes_within : {Pair : ℕ → ℕ → Type 0} (count i j : ℕ) → ArePairsOf Pair count → Precedes Pair i j → (i < count) × (j < count)
precedes_within count i j r (direct h) = r i j h
precedes_within count i j r (through {j = k} c h) = ((precedes_within count i k r c).0, (r k j h).1)

upto : ℕ → List ℕ
upto zero = []
upto (suc n) = n ∷ upto n

length-upto : (n : ℕ) → length (upto n) ≡ n
unfolding upto
length-upto zero = refl
length-upto (suc n) = ap suc (length-upto n)

in_upto : (n i : ℕ) → i < n → Contains (upto n) i
unfolding upto
in_upto zero i h = absurd (omega arith)
in_upto (suc n) i h = elim (ℕ_discrete n i) [ yes e ↦ (0, omega arith, e) | no d ↦ Contains-later n (upto n) i (in_upto n i (omega arith)) ]

pub is_some : (o : Option ℕ) (i : ℕ) → Dec (o ≡ Some i)
is_some None i = no (λ e. cc)
is_some (Some j) i = go (ℕ_discrete j i)
  where
    go : Dec (j ≡ i) → Dec (Some j ≡ Some i)
    go (yes e) = yes (ap Some e)
    go (no n) = no (λ e. n cc)

-- what comes right after i in a list of pairs, if anything does
module _ {A : Type 0} (pair : ℕ → ℕ → A) (first second : A → ℕ) (made : (a : A) → pair (first a) (second a) ≡ a) (first_of : (i j : ℕ) → first (pair i j) ≡ i) where
  pub next_among : (pairs : List A) (i : ℕ) → ((j : ℕ) × Among pair pairs i j) ⊎ ((j : ℕ) → Among pair pairs i j → ⊥)
  next_among [] i = inr (λ j. not-in_empty (pair i j))
  next_among (a ∷ pairs) i = go (ℕ_discrete (first a) i) (next_among pairs i)
    where
      go : Dec (first a ≡ i) → ((j : ℕ) × Among pair pairs i j) ⊎ ((j : ℕ) → Among pair pairs i j → ⊥) → ((j : ℕ) × Among pair (a ∷ pairs) i j) ⊎ ((j : ℕ) → Among pair (a ∷ pairs) i j → ⊥)
      go (yes e) r = inl (second a, (0, omega arith, sym (made a) ∙ ap (λ x. pair x (second a)) e))
      go (no d) (inl (j, h)) = inl (j, Contains-later a pairs (pair i j) h)
      go (no d) (inr f) = inr (λ j h. elim (head_or_tail a pairs (pair i j) h) [ inl e ↦ d (ap first e ∙ first_of i j) | inr k ↦ f j k ])

-- where pairs have no cycle, each child is maximal or precedes a maximal one
module _ (count : ℕ) (Pair : ℕ → ℕ → Type 0) (within : ArePairsOf Pair count) (next : (i : ℕ) → ((j : ℕ) × Pair i j) ⊎ ((j : ℕ) → Pair i j → ⊥)) (acyclic : IsAcyclic Pair) where
  abbrev Ends : ℕ → Type 0
  Ends i = (j : ℕ) → Pair i j → ⊥

  -- the walk up from i meets different children, so it ends
  walk : (k i : ℕ) (seen : List ℕ) → count < k + length (i ∷ seen) → i < count → AreDifferent (i ∷ seen) → ((p : ℕ) → Contains seen p → (p < count) × Precedes Pair p i) → Ends i ⊎ ((c : ℕ) × Precedes Pair i c × Ends c)
  walk zero i seen h l d f =
      let k = no_more (i ∷ seen) (upto count) d (λ p c. in_upto count p (elim (head_or_tail i seen p c) [ inl e ↦ omega arith | inr e ↦ (f p e).0 ])) in
      absurd (omega (arith, length-upto count))
  walk (suc k) i seen h l d f = elim (next i) [ inr m ↦ inl m | inl x ↦ inr (step x.0 x.1 (walk k x.0 (i ∷ seen) (omega arith) (within i x.0 x.1).1 (new x.0 x.1, d) (earlier x.0 x.1))) ]
    where
      earlier : (j : ℕ) → Pair i j → (p : ℕ) → Contains (i ∷ seen) p → (p < count) × Precedes Pair p j
      earlier j e p c = elim (head_or_tail i seen p c) [ inl x ↦ subst (λ z. (z < count) × Precedes Pair z j) x (l, direct e) | inr x ↦ ((f p x).0, through (f p x).1 e) ]

      new : (j : ℕ) → Pair i j → Contains (i ∷ seen) j → ⊥
      new j e c = acyclic j (earlier j e j c).1

      step : (j : ℕ) → Pair i j → Ends j ⊎ ((c : ℕ) × Precedes Pair j c × Ends c) → (c : ℕ) × Precedes Pair i c × Ends c
      step j e (inl m) = (j, direct e, m)
      step j e (inr (c, g, m)) = (c, precedes_then i j c (direct e) g, m)

  -- a chain from a child begins with a pair from it
  maximal : (i : ℕ) → i < count → Ends i → IsMaximal Pair count i
  maximal i l e = (l, none)
    where
      none : (j : ℕ) → Precedes Pair i j → ⊥
      none j (direct h) = e j h
      none j (through {j = k} c h) = none k c

  pub maximal_above : (i : ℕ) → i < count → IsMaximal Pair count i ⊎ ((c : ℕ) × Precedes Pair i c × IsMaximal Pair count c)
  maximal_above i l = elim (walk count i [] (omega arith) l (not-in_empty i, tt) (λ p c. absurd (not-in_empty p c))) [
    | inl e ↦ inl (maximal i l e)
    | inr x ↦ inr (x.0, x.1, maximal x.0 (precedes_within count i x.0 within x.1).1 x.2)
  ]
