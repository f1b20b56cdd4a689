-- Counts are lowered one after another, and nodes are offered one after another.
use Rattle.std.proofs.Common.{ℕ, ◌≡◌, ◌≢◌, ◌+◌, ◌-◌, ◌<◌, ◌⊎◌, ◌↔◌, inl, inr, List, length, get_or, slice_index, refl, ap, sym, subst, ◌∙◌, Contains, arith}
use Rattle.std.proofs.Math.Decide.{ℕ_discrete}
use Rattle.std.proofs.lemmas.List.{get_or_default}
use Rattle.std.proofs.lemmas.List.Elements.{Contains-get_or}
use Rattle.htn_base.specs.Different.{AreDifferent}
use Rattle.htn_base.proofs.DifferentLemmas.{different-places}
use Rattle.schedule_queue.specs.declared.queue.Queue.{Queue}
use Rattle.schedule_queue.specs.Given.{WaitsIn}
use Rattle.schedule_queue.specs.Queue.{blocked_at, Holds, AreLowered, HasSameCounts, IsOffered, AreOffered}

module _ (addresses : List ℕ) where
  -- the first n have been lowered
  pub record AreLoweredUpTo (old now : List ℕ) (n : ℕ) : Type 0 where
    pub falls : (j : ℕ) → j < n → get_or now (get_or addresses j 0) 0 ≡ get_or old (get_or addresses j 0) 0 - 1
    pub stays : (y : ℕ) → ((j : ℕ) → j < n → y ≢ get_or addresses j 0) → get_or now y 0 ≡ get_or old y 0

  pub none_lowered : (old : List ℕ) → AreLoweredUpTo old old 0
  none_lowered old = record { falls = λ j l. absurd (omega arith); stays = λ y h. refl }

  pub one_lowered : (old now next : List ℕ) (n : ℕ) → AreDifferent addresses → n < length addresses → AreLoweredUpTo old now n
      → get_or next (get_or addresses n 0) 0 ≡ get_or now (get_or addresses n 0) 0 - 1
      → ((k : ℕ) → k ≢ get_or addresses n 0 → get_or next k 0 ≡ get_or now k 0) → AreLoweredUpTo old next (n + 1)
  one_lowered old now next n once l u here others = record {
    falls = falls;
    stays = λ y h. others y (h n (omega arith)) ∙ u.stays y (λ j m. h j (omega arith));
  }
    where
      apart : (j : ℕ) → j < n → get_or addresses j 0 ≢ get_or addresses n 0
      apart j m = different-places addresses once j n 0 m l

      falls : (j : ℕ) → j < n + 1 → get_or next (get_or addresses j 0) 0 ≡ get_or old (get_or addresses j 0) 0 - 1
      falls j m = elim (ℕ_discrete j n) [
        | yes e ↦ subst (λ z. get_or next (get_or addresses z 0) 0 ≡ get_or old (get_or addresses z 0) 0 - 1) (sym e)
            (here ∙ ap (λ z. z - 1) (u.stays (get_or addresses n 0) (λ i k e. apart i k (sym e))))
        | no d ↦ (let k : j < n = omega arith in others (get_or addresses j 0) (apart j k) ∙ u.falls j k)
      ]

  pub all_lowered : (old now : List ℕ) (n : ℕ) → n ≡ length addresses → AreLoweredUpTo old now n → AreLowered addresses old now
  all_lowered old now n l u = record {
    falls = λ k (j, m, e). (
        let f : get_or addresses j 0 ≡ k = get_or_default addresses j 0 k m ∙ e in
        subst (λ z. get_or now z 0 ≡ get_or old z 0 - 1) f (u.falls j (omega arith)));
    stays = λ k h. u.stays k (λ j m e. h (subst (Contains addresses) (sym e) (Contains-get_or addresses j 0 (omega arith))));
  }

module _ (actions gaps addresses : List ℕ) where
  -- the first n have been offered
  pub record AreOfferedUpTo (old now : Queue) (n : ℕ) : Type 0 where
    pub same : HasSameCounts old now
    pub holds : (gap k : ℕ) → Holds now gap k
        ↔ (Holds old gap k ⊎ (((j : ℕ) × (j < n) × (get_or addresses j 0 ≡ k)) × (blocked_at old k ≡ 0) × WaitsIn actions gaps k gap))

  pub none_offered : (old : Queue) → AreOfferedUpTo old old 0
  none_offered old = record {
    same = record { unfinished = refl; blocked = refl; passed = refl };
    holds = λ gap k. (λ h. inl h, λ h. elim h [ inl c ↦ c | inr c ↦ absurd (let l = c.0.1 in omega arith) ]);
  }

  pub one_offered : (old now next : Queue) (n : ℕ) (address : ℕ) → address ≡ get_or addresses n 0 → AreOfferedUpTo old now n
      → IsOffered actions gaps address now next → AreOfferedUpTo old next (n + 1)
  one_offered old now next n address is u o = record {
    same = record {
      unfinished = o.same.unfinished ∙ u.same.unfinished;
      blocked = o.same.blocked ∙ u.same.blocked;
      passed = o.same.passed ∙ u.same.passed;
    };
    holds = λ gap k. (to gap k, from gap k);
  }
    where
      blocked_is : (k : ℕ) → blocked_at now k ≡ blocked_at old k
      blocked_is k = ap (λ z. slice_index z.items k) u.same.blocked

      to : (gap k : ℕ) → Holds next gap k
          → Holds old gap k ⊎ (((j : ℕ) × (j < n + 1) × (get_or addresses j 0 ≡ k)) × (blocked_at old k ≡ 0) × WaitsIn actions gaps k gap)
      to gap k h = elim ((o.holds gap k).0 h) [
        | inl c ↦ elim ((u.holds gap k).0 c) [
          | inl d ↦ inl d
          | inr d ↦ inr ((d.0.0, (let l = d.0.1 in omega arith), d.0.2), d.1, d.2)
        ]
        | inr (e, b, w) ↦ inr (
          (n, omega arith, sym is ∙ sym e),
          sym (blocked_is k) ∙ ap (blocked_at now) e ∙ b,
          subst (λ z. WaitsIn actions gaps z gap) (sym e) w,
        )
      ]

      from : (gap k : ℕ) → Holds old gap k ⊎ (((j : ℕ) × (j < n + 1) × (get_or addresses j 0 ≡ k)) × (blocked_at old k ≡ 0)
          × WaitsIn actions gaps k gap)
          → Holds next gap k
      from gap k (inl h) = (o.holds gap k).1 (inl ((u.holds gap k).1 (inl h)))
      from gap k (inr ((j, l, e), b, w)) = elim (ℕ_discrete j n) [
        | yes f ↦ (
            let g : k ≡ address = sym e ∙ ap (λ z. get_or addresses z 0) f ∙ sym is in
            (o.holds gap k).1 (inr (g, ap (blocked_at now) (sym g) ∙ blocked_is k ∙ b, subst (λ z. WaitsIn actions gaps z gap) g w)))
        | no d ↦ (o.holds gap k).1 (inl ((u.holds gap k).1 (inr ((j, omega arith, e), b, w))))
      ]

  pub all_offered : (old now : Queue) (n : ℕ) → n ≡ length addresses → AreOfferedUpTo old now n → AreOffered actions gaps addresses old now
  all_offered old now n m u = record {
    same = u.same;
    holds = λ gap k. (
      λ h. elim ((u.holds gap k).0 h) [ inl c ↦ inl c | inr c ↦ inr (in_list k c.0, c.1, c.2) ],
      λ h. (u.holds gap k).1 (elim h [ inl c ↦ inl c | inr c ↦ inr (placed k c.0, c.1, c.2) ]),
    );
  }
    where
      in_list : (k : ℕ) → (j : ℕ) × (j < n) × (get_or addresses j 0 ≡ k) → Contains addresses k
      in_list k (j, l, e) = subst (Contains addresses) e (Contains-get_or addresses j 0 (omega arith))

      placed : (k : ℕ) → Contains addresses k → (j : ℕ) × (j < n) × (get_or addresses j 0 ≡ k)
      placed k (j, l, e) = (j, omega arith, get_or_default addresses j 0 k l ∙ e)
