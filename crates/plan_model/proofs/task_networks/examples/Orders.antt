-- Orders of three children, worked out.
use Rattle.std.proofs.Common.{ℕ, zero, suc, ◌≡◌, ◌≢◌, ◌<◌, ◌≤◌, inl, inr, List, [], ◌∷◌, ◌++◌, Contains, refl, ap, sym, subst, arith}
use Rattle.plan_model.specs.task_networks.Order.{Precedes, direct, through, IsAcyclic, IsReady, IsNext, IsLine, IsHeir, IsLast, IsMaximal, IsCut, Among, Closes, IsFirstClosing}
use Rattle.plan_model.proofs.task_networks.Lists.{head_or_tail, not-in_empty}

abbrev pair : ℕ → ℕ → ℕ × ℕ
pair i j = (i, j)

-- where a cut of a line of three children is
cuts_of_three : (P : List ℕ → ℕ → Type 0) (a b c : ℕ) → P [] a → P (a ∷ []) b → P (a ∷ b ∷ []) c
    → (listed rest : List ℕ) (i : ℕ) → a ∷ b ∷ c ∷ [] ≡ listed ++ i ∷ rest → P listed i
cuts_of_three P a b c x y z [] rest i e = subst (P []) (let f : a ≡ i = cc in f) x
cuts_of_three P a b c x y z (d ∷ []) rest i e = subst (λ l. P l i) (let f : a ∷ [] ≡ d ∷ [] = cc in f) (subst (P (a ∷ [])) (let f : b ≡ i = cc in f) y)
cuts_of_three P a b c x y z (d ∷ d' ∷ []) rest i e = subst (λ l. P l i) (let f : a ∷ b ∷ [] ≡ d ∷ d' ∷ [] = cc in f) (subst (P (a ∷ b ∷ [])) (let f : c ≡ i = cc in f) z)
cuts_of_three P a b c x y z (d ∷ d' ∷ d'' ∷ []) rest i e = absurd cc
cuts_of_three P a b c x y z (d ∷ d' ∷ d'' ∷ d''' ∷ listed) rest i e = absurd cc

-- the last child must come before the first one: 2 < 0, and 1 is free
module _ where
  abbrev last_before_first : List (ℕ × ℕ)
  last_before_first = (2, 0) ∷ []

  only_pair : (i j : ℕ) → Among pair last_before_first i j → (2 ≡ i) × (0 ≡ j)
  only_pair i j c = elim (head_or_tail (2, 0) [] (i, j) c) [ inl e ↦ (ap (λ x. x.0) e, ap (λ x. x.1) e) | inr d ↦ absurd (not-in_empty (i, j) d) ]

  only_chain : (i j : ℕ) → Precedes (Among pair last_before_first) i j → (2 ≡ i) × (0 ≡ j)
  only_chain i j (direct p) = only_pair i j p
  only_chain i j (through {j = k} c p) = absurd (let a = (only_chain i k c).1 in let b = (only_pair k j p).0 in omega arith)

  acyclic : IsAcyclic (Among pair last_before_first)
  acyclic i c = let e = only_chain i i c in let a = e.0 in let b = e.1 in omega arith

  two_before_zero : Precedes (Among pair last_before_first) 2 0
  two_before_zero = direct (0, omega arith, refl)

  -- the line isn't the order of the numbers: 1, 2, 0
  line : IsLine (Among pair last_before_first) 3 (1 ∷ 2 ∷ 0 ∷ [])
  line = record { whole = whole; each = cuts_of_three (IsNext (Among pair last_before_first) 3) 1 2 0 first second third }
    where
      whole : (i : ℕ) → i < 3 → Contains {X = ℕ} (1 ∷ 2 ∷ 0 ∷ []) i
      whole zero h = (2, omega arith, refl)
      whole (suc zero) h = (0, omega arith, refl)
      whole (suc (suc zero)) h = (1, omega arith, refl)
      whole (suc (suc (suc i))) h = absurd (omega arith)

      free : (listed : List ℕ) (i : ℕ) → i ≢ 0 → (j : ℕ) → Precedes (Among pair last_before_first) j i → Contains listed j
      free listed i n j c = absurd (n (sym (only_chain j i c).1))

      first : IsNext (Among pair last_before_first) 3 [] 1
      first = record { ready = record { child = omega arith; unlisted = not-in_empty 1; preceded = free [] 1 (omega arith) }; least = least }
        where
          least : (j : ℕ) → IsReady (Among pair last_before_first) 3 [] j → 1 ≤ j
          least zero r = absurd (not-in_empty 2 (r.preceded 2 two_before_zero))
          least (suc j) r = omega arith

      second : IsNext (Among pair last_before_first) 3 (1 ∷ []) 2
      second = record { ready = record { child = omega arith; unlisted = unlisted; preceded = free (1 ∷ []) 2 (omega arith) }; least = least }
        where
          unlisted : Contains {X = ℕ} (1 ∷ []) 2 → ⊥
          unlisted c = elim (head_or_tail 1 [] 2 c) [ inl e ↦ omega arith | inr d ↦ not-in_empty 2 d ]

          least : (j : ℕ) → IsReady (Among pair last_before_first) 3 (1 ∷ []) j → 2 ≤ j
          least zero r = absurd (unlisted (r.preceded 2 two_before_zero))
          least (suc zero) r = absurd (r.unlisted (0, omega arith, refl))
          least (suc (suc j)) r = omega arith

      third : IsNext (Among pair last_before_first) 3 (1 ∷ 2 ∷ []) 0
      third = record { ready = record { child = omega arith; unlisted = unlisted; preceded = λ j c. (1, omega arith, (only_chain j 0 c).0) }; least = λ j r. omega arith }
        where
          unlisted : Contains {X = ℕ} (1 ∷ 2 ∷ []) 0 → ⊥
          unlisted c = elim (head_or_tail 1 (2 ∷ []) 0 c) [ inl e ↦ omega arith | inr d ↦ elim (head_or_tail 2 [] 0 d) [ inl e ↦ omega arith | inr x ↦ not-in_empty 0 x ] ]

  heir : IsHeir (Among pair last_before_first) 3 0
  heir = (1 ∷ 2 ∷ [], line)

  one_is_maximal : IsMaximal (Among pair last_before_first) 3 1
  one_is_maximal = (omega arith, λ j c. (let a = (only_chain 1 j c).0 in omega arith))

  two_is_not_maximal : IsMaximal (Among pair last_before_first) 3 2 → ⊥
  two_is_not_maximal m = m.1 0 two_before_zero

  -- the heir isn't last: 1 doesn't precede it
  heir_is_not_last : IsLast (Among pair last_before_first) 3 0 → ⊥
  heir_is_not_last l = let e = only_chain 1 0 (l.1 1 (omega arith) (omega arith)) in let a = e.0 in omega arith

  no_cut_after_one : IsCut (Among pair last_before_first) (1 ∷ 2 ∷ 0 ∷ []) 1 → ⊥
  no_cut_after_one f = let e = only_chain 1 2 (f 1 2 (0, omega arith, refl) (0, omega arith, refl)) in let a = e.0 in omega arith

-- three children in their order: 0 < 1 < 2
module _ where
  abbrev in_order : List (ℕ × ℕ)
  in_order = (0, 1) ∷ (1, 2) ∷ []

  first_before_third : Precedes (Among pair in_order) 0 2
  first_before_third = through (direct (0, omega arith, refl)) (1, omega arith, refl)

  second_before_third : Precedes (Among pair in_order) 1 2
  second_before_third = direct (1, omega arith, refl)

  third_is_last : IsLast (Among pair in_order) 3 2
  third_is_last = (omega arith, before)
    where
      before : (j : ℕ) → j < 3 → j ≢ 2 → Precedes (Among pair in_order) j 2
      before zero h n = first_before_third
      before (suc zero) h n = second_before_third
      before (suc (suc zero)) h n = absurd (n refl)
      before (suc (suc (suc j))) h n = absurd (omega arith)

  cut_after_two : IsCut (Among pair in_order) (0 ∷ 1 ∷ 2 ∷ []) 2
  cut_after_two i j c d = subst (Precedes (Among pair in_order) i) (third j d) (before i c)
    where
      third : (j : ℕ) → Contains {X = ℕ} (2 ∷ []) j → 2 ≡ j
      third j d = elim (head_or_tail 2 [] j d) [ inl e ↦ e | inr x ↦ absurd (not-in_empty j x) ]

      before : (i : ℕ) → Contains {X = ℕ} (0 ∷ 1 ∷ []) i → Precedes (Among pair in_order) i 2
      before i c = elim (head_or_tail 0 (1 ∷ []) i c) [
        | inl e ↦ subst (λ x. Precedes (Among pair in_order) x 2) e first_before_third
        | inr d ↦ elim (head_or_tail 1 [] i d) [ inl e ↦ subst (λ x. Precedes (Among pair in_order) x 2) e second_before_third | inr x ↦ absurd (not-in_empty i x) ]
      ]

-- 0 < 1, 1 < 2 and 2 < 0: the third pair closes a cycle
module _ where
  one_up : (i j : ℕ) → Among pair in_order i j → i < j
  one_up i j p = elim (head_or_tail (0, 1) ((1, 2) ∷ []) (i, j) p) [
    | inl e ↦ (let a : 0 ≡ i = ap (λ x. x.0) e in let b : 1 ≡ j = ap (λ x. x.1) e in omega arith)
    | inr d ↦ elim (head_or_tail (1, 2) [] (i, j) d) [ inl e ↦ (let a : 1 ≡ i = ap (λ x. x.0) e in let b : 2 ≡ j = ap (λ x. x.1) e in omega arith) | inr x ↦ absurd (not-in_empty (i, j) x) ]
  ]

  upward : (i j : ℕ) → Precedes (Among pair in_order) i j → i < j
  upward i j (direct p) = one_up i j p
  upward i k (through {j = j} c p) = let a = upward i j c in let b = one_up j k p in omega arith

  third_closes : IsFirstClosing pair ((0, 1) ∷ (1, 2) ∷ (2, 0) ∷ []) 2
  third_closes = record {
    before = in_order;
    first = 2;
    second = 0;
    rest = [];
    parts = refl;
    place = refl;
    acyclic = λ i c. (let h = upward i i c in omega arith);
    closes = inr first_before_third;
  }

  second_closes_none : Closes pair ((0, 1) ∷ []) 1 2 → ⊥
  second_closes_none (inl e) = omega arith
  second_closes_none (inr c) = let h = upward 2 1 (wider 2 1 c) in omega arith
    where
      more : (i j : ℕ) → Among pair ((0, 1) ∷ []) i j → Among pair in_order i j
      more i j p = elim (head_or_tail (0, 1) [] (i, j) p) [ inl e ↦ (0, omega arith, e) | inr x ↦ absurd (not-in_empty (i, j) x) ]

      wider : (i j : ℕ) → Precedes (Among pair ((0, 1) ∷ [])) i j → Precedes (Among pair in_order) i j
      wider i j (direct p) = direct (more i j p)
      wider i k (through {j = j} c p) = through (wider i j c) (more j k p)
