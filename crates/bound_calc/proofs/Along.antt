-- What blocks count, along the line: each block is a stretch of it, and all that stand behind count one each.
use Rattle.std.proofs.Common.{ℕ, zero, suc, ◌≡◌, ◌+◌, ◌<◌, ◌≤◌, ◌⊎◌, inl, inr, List, [], ◌∷◌, length, take, drop, get_or, refl, ap, sym, subst, ◌∙◌, Contains, arith}
use Rattle.std.specs.List.{sum_by}
use Rattle.std.proofs.lemmas.List.Sums.{sum_by-cons, sum_by_more, sum_by-take-drop}
use Rattle.std.proofs.lemmas.List.{length-drop}
use Rattle.plan_model.specs.task_networks.Order.{IsCut}
use Rattle.htn_base.specs.Different.{AreDifferent}
use Rattle.plan_model.specs.task_networks.Bound.{AreBlocks, weight}
use Rattle.plan_model.proofs.task_networks.BoundLaws.{by_size, before_block, at_block, after_block}
use Rattle.plan_model.proofs.task_networks.Lists.{not-in_empty, head_or_tail, Contains-here, Contains-later}

take_up : (j k : ℕ) (xs : List ℕ) (x : ℕ) → j ≤ k → Contains (take j xs) x → Contains (take k xs) x
take_up zero k xs x l c = absurd (not-in_empty x c)
take_up (suc j) zero xs x l c = absurd (omega arith)
take_up (suc j) (suc k) [] x l c = c
take_up (suc j) (suc k) (y ∷ xs) x l c = elim (head_or_tail y (take j xs) x c) [
  | inl e ↦ subst (Contains (y ∷ take k xs)) e (Contains-here y (take k xs))
  | inr d ↦ Contains-later y (take k xs) x (take_up j k xs x (omega arith) d)
]

drop_in : (k : ℕ) (xs : List ℕ) (x : ℕ) → Contains (drop k xs) x → Contains xs x
drop_in zero xs x c = c
drop_in (suc k) [] x c = c
drop_in (suc k) (y ∷ xs) x c = Contains-later y xs x (drop_in k xs x c)

drop_up : (j k : ℕ) (xs : List ℕ) (x : ℕ) → j ≤ k → Contains (drop k xs) x → Contains (drop j xs) x
drop_up zero k xs x l c = drop_in k xs x c
drop_up (suc j) zero xs x l c = absurd (omega arith)
drop_up (suc j) (suc k) [] x l c = c
drop_up (suc j) (suc k) (y ∷ xs) x l c = drop_up j k xs x (omega arith) c

pub take_in : (k : ℕ) (xs : List ℕ) (x : ℕ) → Contains (take k xs) x → Contains xs x
take_in zero xs x c = absurd (not-in_empty x c)
take_in (suc k) [] x c = c
take_in (suc k) (y ∷ xs) x c = elim (head_or_tail y (take k xs) x c) [
  | inl e ↦ subst (Contains (y ∷ xs)) e (Contains-here y xs)
  | inr d ↦ Contains-later y xs x (take_in k xs x d)
]

pub all_taken : (xs : List ℕ) (x : ℕ) → Contains xs x → Contains (take (length xs) xs) x
all_taken [] x c = c
all_taken (y ∷ xs) x c = elim (head_or_tail y xs x c) [
  | inl e ↦ subst (Contains (y ∷ take (length xs) xs)) e (Contains-here y (take (length xs) xs))
  | inr d ↦ Contains-later y (take (length xs) xs) x (all_taken xs x d)
]

-- the element at a place, in the beginning and in the rest
at_take : (k : ℕ) (xs : List ℕ) → k < length xs → Contains (take (suc k) xs) (get_or xs k 0)
at_take k [] l = absurd (omega arith)
at_take zero (y ∷ xs) l = Contains-here y []
at_take (suc k) (y ∷ xs) l = Contains-later y (take (suc k) xs) (get_or xs k 0) (at_take k xs (omega arith))

pub at_drop : (k : ℕ) (xs : List ℕ) → k < length xs → Contains (drop k xs) (get_or xs k 0)
at_drop k [] l = absurd (omega arith)
at_drop zero (y ∷ xs) l = Contains-here y xs
at_drop (suc k) (y ∷ xs) l = at_drop k xs (omega arith)

-- what is taken is one more, or was taken
take_more : (k : ℕ) (xs : List ℕ) (x : ℕ) → Contains (take (suc k) xs) x → Contains (take k xs) x ⊎ (x ≡ get_or xs k 0)
take_more k [] x c = absurd (not-in_empty x c)
take_more zero (y ∷ xs) x c = elim (head_or_tail y [] x c) [ inl e ↦ inr (sym e) | inr d ↦ absurd (not-in_empty x d) ]
take_more (suc k) (y ∷ xs) x c = elim (head_or_tail y (take (suc k) xs) x c) [
  | inl e ↦ inl (subst (Contains (y ∷ take k xs)) e (Contains-here y (take k xs)))
  | inr d ↦ elim (take_more k xs x d) [ inl f ↦ inl (Contains-later y (take k xs) x f) | inr f ↦ inr f ]
]

not_in_both : (k : ℕ) (xs : List ℕ) (x : ℕ) → AreDifferent xs → Contains (take k xs) x → Contains (drop k xs) x → ⊥
not_in_both zero xs x d a b = not-in_empty x a
not_in_both (suc k) [] x d a b = not-in_empty x a
not_in_both (suc k) (y ∷ xs) x d a b = elim (head_or_tail y (take k xs) x a) [
  | inl e ↦ d.0 (subst (Contains xs) (sym e) (drop_in k xs x b))
  | inr c ↦ not_in_both k xs x d.1 c b
]

module _ (f : ℕ → ℕ) where
  sum_zeros : (xs : List ℕ) → ((x : ℕ) → Contains xs x → f x ≡ 0) → sum_by f xs ≡ 0
  sum_zeros [] h = refl
  sum_zeros (x ∷ xs) h = let a = h x (Contains-here x xs) in let b = sum_zeros xs (λ y c. h y (Contains-later x xs y c)) in omega (arith, sum_by-cons f x xs)

  sum_ones : (xs : List ℕ) → ((x : ℕ) → Contains xs x → f x ≡ 1) → sum_by f xs ≡ length xs
  sum_ones [] h = refl
  sum_ones (x ∷ xs) h = let a = h x (Contains-here x xs) in let b = sum_ones xs (λ y c. h y (Contains-later x xs y c)) in omega (arith, sum_by-cons f x xs)

  sum_positive : (xs : List ℕ) → ((x : ℕ) → Contains xs x → 1 ≤ f x) → length xs ≤ sum_by f xs
  sum_positive [] h = omega arith
  sum_positive (x ∷ xs) h = let a = h x (Contains-here x xs) in let b = sum_positive xs (λ y c. h y (Contains-later x xs y c)) in omega (arith, sum_by-cons f x xs)

module _ (line : List ℕ) (number block : ℕ → ℕ) where
  -- what child x counts in block b
  abbrev pub counted : ℕ → ℕ → ℕ
  counted b x = weight b (block x) (number x)

  -- the number of block b
  abbrev pub block_sum : ℕ → ℕ
  block_sum b = sum_by (counted b) line

  -- the block of the child at place k
  abbrev pub at : ℕ → ℕ
  at k = block (get_or line k 0)

  -- the sum so far, over the first k of the line
  pub record IsSummed (k pending greatest : ℕ) : Type 0 where
    pub first : k ≡ 0 → pending ≡ length line
    pub sum : (j : ℕ) → k ≡ suc j → pending + k ≡ sum_by (counted (at j)) (take k line) + length line
    pub kept : 0 < k → pending ≤ greatest
    pub above : (x : ℕ) → Contains (take k line) x → (block_sum (block x) ≤ greatest) ⊎ ((j : ℕ) × (k ≡ suc j) × (block x ≡ at j))
    pub attained : (greatest ≡ 1) ⊎ ((x : ℕ) × Contains line x × (greatest ≤ block_sum (block x)))

  -- the block of the next: a new one after a cut, with all that stand from there on
  pub record Starts (k start : ℕ) : Type 0 where
    pub is : start + k ≡ sum_by (counted (at k)) (take k line) + length line

module _ (Pair : ℕ → ℕ → Type 0) (line : List ℕ) (different : AreDifferent line) (number : ℕ → ℕ) (positive : (x : ℕ) → Contains line x → 1 ≤ number x) (block : ℕ → ℕ) (are : AreBlocks Pair line block) where
  -- blocks rise along the line
  rises : (k x y : ℕ) → Contains (take k line) x → Contains (drop k line) y → block x ≤ block y
  rises k x y a b = go (by_size (block x) (block y))
    where
      back : block y < block x → ⊥
      back l =
          let (j, cut, c, d) = (are y x (drop_in k line y b) (take_in k line x a)).0 l in
          elim (by_size j k) [
            | inl m ↦ not_in_both k line y different (take_up j k line y (omega arith) c) b
            | inr m ↦ not_in_both j line x different (take_up k j line x (elim m [ inl e ↦ omega arith | inr e ↦ omega arith ]) a) d
          ]

      go : (block x < block y) ⊎ ((block x ≡ block y) ⊎ (block y < block x)) → block x ≤ block y
      go (inl l) = omega arith
      go (inr (inl e)) = omega arith
      go (inr (inr l)) = absurd (back l)

  parts : (k x y : ℕ) → IsCut Pair line k → Contains (take k line) x → Contains (drop k line) y → block x < block y
  parts k x y cut a b = (are x y (take_in k line x a) (drop_in k line y b)).1 (k, cut, a, b)

  -- where there is no cut, the next is in the same block
  stays : (k : ℕ) → suc k < length line → (IsCut Pair line (suc k) → ⊥) → block (get_or line k 0) ≡ block (get_or line (suc k) 0)
  stays k l none = go (by_size (block x) (block y))
    where
      x : ℕ
      x = get_or line k 0

      y : ℕ
      y = get_or line (suc k) 0

      taken : Contains (take (suc k) line) (get_or line k 0)
      taken = at_take k line (omega arith)

      left : Contains (drop (suc k) line) (get_or line (suc k) 0)
      left = at_drop (suc k) line l

      up : block (get_or line k 0) ≤ block (get_or line (suc k) 0)
      up = rises (suc k) (get_or line k 0) (get_or line (suc k) 0) taken left

      parted : block (get_or line k 0) < block (get_or line (suc k) 0) → ⊥
      parted m =
          let (j, cut, c, d) = (are (get_or line k 0) (get_or line (suc k) 0) (take_in (suc k) line _ taken) (drop_in (suc k) line _ left)).0 m in
          elim (by_size j (suc k)) [
            | inl e ↦ not_in_both k line (get_or line k 0) different (take_up j k line (get_or line k 0) (omega arith) c) (at_drop k line (omega arith))
            | inr e ↦ elim e [
              | inl f ↦ none (subst (IsCut Pair line) f cut)
              | inr f ↦ not_in_both (suc (suc k)) line (get_or line (suc k) 0) different (at_take (suc k) line l) (drop_up (suc (suc k)) j line (get_or line (suc k) 0) (omega arith) d)
            ]
          ]

      go : (block (get_or line k 0) < block (get_or line (suc k) 0)) ⊎ ((block (get_or line k 0) ≡ block (get_or line (suc k) 0)) ⊎ (block (get_or line (suc k) 0) < block (get_or line k 0))) → block (get_or line k 0) ≡ block (get_or line (suc k) 0)
      go (inl m) = absurd (parted m)
      go (inr (inl e)) = e
      go (inr (inr m)) = absurd (let h = up in omega arith)

  counts_positive : (b x : ℕ) → Contains line x → b ≤ block x → 1 ≤ counted line number block b x
  counts_positive b x c l = go (by_size (block x) b)
    where
      go : (block x < b) ⊎ ((block x ≡ b) ⊎ (b < block x)) → 1 ≤ counted line number block b x
      go (inl m) = absurd (omega arith)
      go (inr (inl e)) = let a = at_block b (block x) (number x) e in let p = positive x c in omega arith
      go (inr (inr m)) = let a = after_block b (block x) (number x) m in omega arith

  -- what has been summed at place k never exceeds the block's number
  pub within : (k pending : ℕ) → k < length line → pending + suc k ≡ sum_by (counted line number block (at line number block k)) (take (suc k) line) + length line → pending ≤ block_sum line number block (at line number block k)
  within k pending l e =
      let a = sum_by-take-drop (counted line number block (at line number block k)) line (suc k) in
      let b = sum_positive (counted line number block (at line number block k)) (drop (suc k) line) (λ x c. counts_positive (at line number block k) x (drop_in (suc k) line x c) (rises (suc k) (get_or line k 0) x (at_take k line l) c)) in
      let d = length-drop (suc k) line in
      omega arith

  -- and is the block's number at its end
  at_end : (k pending : ℕ) → k < length line → ((x : ℕ) → Contains (drop (suc k) line) x → at line number block k < block x) → pending + suc k ≡ sum_by (counted line number block (at line number block k)) (take (suc k) line) + length line → block_sum line number block (at line number block k) ≤ pending
  at_end k pending l ends e =
      let a = sum_by-take-drop (counted line number block (at line number block k)) line (suc k) in
      let b = sum_ones (counted line number block (at line number block k)) (drop (suc k) line) (λ x c. after_block (at line number block k) (block x) (number x) (ends x c)) in
      let d = length-drop (suc k) line in
      omega arith

  pub summed_none : IsSummed line number block 0 (length line) 1
  summed_none = record {
    first = λ e. refl;
    sum = λ j e. absurd (omega arith);
    kept = λ l. absurd (omega arith);
    above = λ x c. absurd (not-in_empty x c);
    attained = inl refl;
  }

  pub starts_new : (k start : ℕ) → k < length line → IsCut Pair line k → start + k ≡ length line → Starts line number block k start
  starts_new k start l cut e = record { is = (let a = sum_zeros (counted line number block (at line number block k)) (take k line) (λ x c. before_block (at line number block k) (block x) (number x) (parts k x (get_or line k 0) cut c (at_drop k line l))) in omega arith) }

  pub starts_first : (pending greatest : ℕ) → IsSummed line number block 0 pending greatest → Starts line number block 0 pending
  starts_first pending greatest h = record { is = (let a = h.first refl in omega arith) }

  pub starts_same : (k pending greatest : ℕ) → suc k < length line → (IsCut Pair line (suc k) → ⊥) → IsSummed line number block (suc k) pending greatest → Starts line number block (suc k) pending
  starts_same k pending greatest l none h = record { is = subst (λ b. pending + suc k ≡ sum_by (counted line number block b) (take (suc k) line) + length line) (stays k l none) (h.sum k refl) }

  -- the next child counts its number, and no longer one
  adds : (k start new : ℕ) → k < length line → Starts line number block k start → new + 1 ≡ start + number (get_or line k 0) → new + suc k ≡ sum_by (counted line number block (at line number block k)) (take (suc k) line) + length line
  adds k start new l h e =
      let a = sum_by_more (counted line number block (at line number block k)) line k 0 l in
      let b = at_block (at line number block k) (at line number block k) (number (get_or line k 0)) refl in
      let c = ap (λ n. sum_by (counted line number block (at line number block k)) (take n line)) (let y : k + 1 ≡ suc k = omega arith in y) in
      let d = h.is in
      omega arith

  -- so it never exceeds the block's number
  pub adds_within : (k start new : ℕ) → k < length line → Starts line number block k start → new + 1 ≡ start + number (get_or line k 0) → new ≤ block_sum line number block (at line number block k)
  adds_within k start new l h e = within k new l (adds k start new l h e)

  -- the block before a cut is whole
  whole_at_cut : (k pending greatest : ℕ) → suc k < length line → IsCut Pair line (suc k) → IsSummed line number block (suc k) pending greatest → block_sum line number block (at line number block k) ≤ greatest
  whole_at_cut k pending greatest l cut h =
      let a = at_end k pending (omega arith) (λ x c. parts (suc k) (get_or line k 0) x cut (at_take k line (omega arith)) c) (h.sum k refl) in
      let b = h.kept (omega arith) in
      omega arith

  pub summed_more : (k pending start new greatest more : ℕ) → k < length line → IsSummed line number block k pending greatest → Starts line number block k start → IsCut Pair line k ⊎ (IsCut Pair line k → ⊥)
      → new + 1 ≡ start + number (get_or line k 0) → greatest ≤ more → new ≤ more → (more ≡ greatest) ⊎ (more ≡ new) → IsSummed line number block (suc k) new more
  summed_more k pending start new greatest more l h s or_not e p q one = record {
    first = λ f. absurd (omega arith);
    sum = λ j f. subst (λ n. new + suc k ≡ sum_by (counted line number block (at line number block n)) (take (suc k) line) + length line) (let y : k ≡ j = omega arith in y) (adds k start new l s e);
    kept = λ f. q;
    above = λ x c. elim (take_more k line x c) [ inl d ↦ before x d | inr d ↦ inr (k, refl, ap block d) ];
    attained = elim one [ inl f ↦ elim h.attained [ inl g ↦ inl (f ∙ g) | inr g ↦ inr (g.0, g.1, (let a = g.2 in omega arith)) ] | inr f ↦ inr (get_or line k 0, drop_in k line _ (at_drop k line l), (let a = adds_within k start new l s e in omega arith)) ];
  }
    where
      before : (x : ℕ) → Contains (take k line) x → (block_sum line number block (block x) ≤ more) ⊎ ((j : ℕ) × (suc k ≡ suc j) × (block x ≡ at line number block j))
      before x d = elim (h.above x d) [ inl f ↦ inl (omega arith) | inr f ↦ last f.0 f.1 f.2 ]
        where
          last : (j : ℕ) → k ≡ suc j → block x ≡ at line number block j → (block_sum line number block (block x) ≤ more) ⊎ ((i : ℕ) × (suc k ≡ suc i) × (block x ≡ at line number block i))
          last j f g = elim or_not [
            | inl cut ↦ inl (
                let a = whole_at_cut j pending greatest (omega arith) (subst (IsCut Pair line) f cut) (subst (λ n. IsSummed line number block n pending greatest) f h) in
                let b = ap (block_sum line number block) g in
                omega arith)
            | inr none ↦ inr (k, refl, g ∙ stays j (omega arith) (λ cut. none (subst (IsCut Pair line) (sym f) cut)) ∙ ap (at line number block) (sym f))
          ]

  -- over the whole line
  pub summed_above : (pending greatest x : ℕ) → IsSummed line number block (length line) pending greatest → Contains line x → block_sum line number block (block x) ≤ greatest
  summed_above pending greatest x h c = elim (h.above x (all_taken line x c)) [ inl f ↦ f | inr f ↦ last f.0 f.1 f.2 ]
    where
      last : (j : ℕ) → length line ≡ suc j → block x ≡ at line number block j → block_sum line number block (block x) ≤ greatest
      last j f g =
          let a = at_end j pending (omega arith) (λ y d. absurd (none y (subst (λ n. Contains (drop n line) y) (sym f) d))) (subst (λ n. pending + n ≡ sum_by (counted line number block (at line number block j)) (take n line) + length line) f (h.sum j f)) in
          let b = h.kept (omega arith) in
          let d = ap (block_sum line number block) g in
          omega arith
        where
          none : (y : ℕ) → Contains (drop (length line) line) y → ⊥
          none y d = let k = length-drop (length line) line in let m = d.1 in omega arith
