-- Blocks exist: the block of a child is the number of cuts that it stands behind.
use Rattle.std.proofs.Common.{ℕ, zero, suc, ◌≡◌, ◌+◌, ◌<◌, ◌≤◌, ◌⊎◌, inl, inr, List, [], ◌∷◌, length, take, drop, sym, subst, Contains, arith, add-le-add}
use Rattle.plan_model.specs.task_networks.Order.{Precedes, direct, through, IsCut, Among}
use Rattle.plan_model.specs.task_networks.Bound.{AreBlocks}
use Rattle.plan_model.specs.task_networks.Strata.{IsWalk, Reaches}
use Rattle.plan_model.proofs.task_networks.Lists.{not-in_empty, head_or_tail, Contains-here, Contains-later}
use Rattle.plan_model.proofs.task_networks.Orders.{precedes_then}
use Rattle.slot_machine.proofs.bound_laws.Decided.{Or_not, both, each_or_not, some_or_not, same_or_not, has_or_not, one_if, one_if_up, one_if_more, one_if_less}
use Rattle.slot_machine.proofs.bound_laws.Reach.{reaches_on, reaches_or_not}

in_two : (k : ℕ) (xs : List ℕ) (i : ℕ) → Contains xs i → Contains (take k xs) i ⊎ Contains (drop k xs) i
in_two zero xs i c = inr c
in_two (suc k) [] i c = absurd (not-in_empty i c)
in_two (suc k) (x ∷ xs) i c = go (head_or_tail x xs i c) (λ d. in_two k xs i d)
  where
    go : (x ≡ i) ⊎ Contains xs i → (Contains xs i → Contains (take k xs) i ⊎ Contains (drop k xs) i) → Contains (x ∷ take k xs) i ⊎ Contains (drop k xs) i
    go (inl e) f = inl (subst (Contains (x ∷ take k xs)) e (Contains-here x (take k xs)))
    go (inr d) f = elim (f d) [ inl a ↦ inl (Contains-later x (take k xs) i a) | inr b ↦ inr b ]

short : (k : ℕ) (xs : List ℕ) (i : ℕ) → Contains (drop k xs) i → k < length xs
short zero [] i c = absurd (not-in_empty i c)
short zero (x ∷ xs) i c = omega arith
short (suc k) [] i c = absurd (not-in_empty i c)
short (suc k) (x ∷ xs) i c = let h = short k xs i c in omega arith

-- how many of the first n numbers a decided thing holds of
abbrev how_many : (P : ℕ → Type 0) → ((k : ℕ) → Or_not (P k)) → ℕ → ℕ
how_many P d zero = 0
how_many P d (suc n) = one_if (d n) + how_many P d n

module _ (P Q : ℕ → Type 0) (d : (k : ℕ) → Or_not (P k)) (e : (k : ℕ) → Or_not (Q k)) where
  not_more : ((k : ℕ) → P k → Q k) → (n : ℕ) → how_many P d n ≤ how_many Q e n
  not_more f zero = omega arith
  not_more f (suc n) = add-le-add (one_if_up (f n) (d n) (e n)) (not_more f n)

  fewer : ((k : ℕ) → P k → Q k) → (n k : ℕ) → k < n → Q k → (P k → ⊥) → how_many P d n < how_many Q e n
  fewer f zero k l q m = absurd (omega arith)
  fewer f (suc n) k l q m = go (same_or_not k n) (λ h. fewer f n k h q m)
    where
      go : (k ≡ n) ⊎ (k ≡ n → ⊥) → (k < n → how_many P d n < how_many Q e n) → one_if (d n) + how_many P d n < one_if (e n) + how_many Q e n
      go (inl s) h = let a = one_if_more (subst Q s q) (λ p. m (subst P (sym s) p)) (d n) (e n) in let b = not_more f n in omega arith
      go (inr s) h = let a = one_if_up (f n) (d n) (e n) in let b = h (omega arith) in omega arith

  one_more : (n : ℕ) → how_many P d n < how_many Q e n → (k : ℕ) × (P k → ⊥) × Q k
  one_more zero l = absurd (omega arith)
  one_more (suc n) l = go (one_if_less (d n) (e n)) (λ h. one_more n h)
    where
      go : (one_if (e n) ≤ one_if (d n)) ⊎ ((P n → ⊥) × Q n) → (how_many P d n < how_many Q e n → (k : ℕ) × (P k → ⊥) × Q k) → (k : ℕ) × (P k → ⊥) × Q k
      go (inl h) f = f (omega arith)
      go (inr h) f = (n, h.0, h.1)

module _ (Pair : ℕ → ℕ → Type 0) (told : (i j : ℕ) → Or_not (Precedes Pair i j)) (line : List ℕ) where
  abbrev Behind : ℕ → ℕ → Type 0
  Behind i k = IsCut Pair line k × Contains (drop k line) i

  cut_or_not : (k : ℕ) → Or_not (IsCut Pair line k)
  cut_or_not k = go (each_or_not (λ i. (j : ℕ) → Contains (drop k line) j → Precedes Pair i j) (λ i. each_or_not (Precedes Pair i) (told i) (drop k line)) (take k line))
    where
      go : Or_not ((i : ℕ) → Contains (take k line) i → (j : ℕ) → Contains (drop k line) j → Precedes Pair i j) → Or_not (IsCut Pair line k)
      go (inl f) = inl (λ i j a b. f i a j b)
      go (inr n) = inr (λ f. n (λ i a j b. f i j a b))

  behind_or_not : (i k : ℕ) → Or_not (Behind i k)
  behind_or_not i k = both (cut_or_not k) (has_or_not (drop k line) i)

  pub block_of : ℕ → ℕ
  block_of i = how_many (Behind i) (behind_or_not i) (length line)

  pub blocks_exist : ((i : ℕ) → Contains line i → Precedes Pair i i → ⊥) → AreBlocks Pair line block_of
  unfolding block_of
  blocks_exist acyclic i j a b = (
    λ l. (let (k, n, (cut, behind)) = one_more (Behind i) (Behind j) (behind_or_not i) (behind_or_not j) (length line) l in
        elim (in_two k line i a) [ inl t ↦ (k, cut, t, behind) | inr d ↦ absurd (n (cut, d)) ]),
    λ h. fewer (Behind i) (Behind j) (behind_or_not i) (behind_or_not j)
        (λ k p. (p.0, elim (in_two k line j b) [ inl t ↦ absurd (acyclic i a (precedes_then i j i (h.1 i j h.2 h.3) (p.0 j i t p.1))) | inr d ↦ d ]))
        (length line) h.0 (short h.0 line j h.3) (h.1, h.3) (λ p. acyclic i a (h.1 i i h.2 p.1)),
  )

-- a list of pairs decides what precedes
module _ {A : Type 0} (pair : ℕ → ℕ → A) (first second : A → ℕ) (made : (a : A) → pair (first a) (second a) ≡ a) (first_of : (i j : ℕ) → first (pair i j) ≡ i) (second_of : (i j : ℕ) → second (pair i j) ≡ j) (pairs : List A) where
  abbrev Starts : ℕ → ℕ → A → Type 0
  Starts i j a = (first a ≡ i) × Reaches first second pairs (second a) j

  to_chain : (i j k : ℕ) → Precedes (Among pair pairs) i j → Reaches first second pairs j k → Precedes (Among pair pairs) i k
  to_chain i j k p (walk, w) = on j p walk w
    where
      on : (j : ℕ) → Precedes (Among pair pairs) i j → (walk : List A) → IsWalk first second pairs j walk k → Precedes (Among pair pairs) i k
      on j p [] e = subst (Precedes (Among pair pairs) i) e p
      on j p (a ∷ walk) w = on (second a) (through p (subst (λ z. Contains pairs (pair z (second a))) w.0 (subst (Contains pairs) (sym (made a)) w.1))) walk w.2

  from_chain : (i j : ℕ) → Precedes (Among pair pairs) i j → (a : A) × Contains pairs a × Starts i j a
  from_chain i j (direct h) = (pair i j, h, (first_of i j, ([], second_of i j)))
  from_chain i k (through {j = j} c h) =
      let (a, d, (e, r)) = from_chain i j c in
      (a, d, (e, reaches_on first second pairs (second a) j k r (pair j k ∷ [], (first_of j k, h, second_of j k))))

  pub precedes_or_not : (i j : ℕ) → Or_not (Precedes (Among pair pairs) i j)
  precedes_or_not i j = go (some_or_not (Starts i j) (λ a. both (same_or_not (first a) i) (reaches_or_not first second same_or_not pairs (second a) j)) pairs)
    where
      go : Or_not ((a : A) × Contains pairs a × Starts i j a) → Or_not (Precedes (Among pair pairs) i j)
      go (inl (a, c, (e, r))) = inl (to_chain i (second a) j (direct (subst (λ z. Contains pairs (pair z (second a))) e (subst (Contains pairs) (sym (made a)) c))) r)
      go (inr n) = inr (λ p. n (from_chain i j p))
