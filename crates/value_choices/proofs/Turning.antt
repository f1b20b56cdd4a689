-- How values move on: from the last place on each is its range's last one and becomes the first one, up to a place that has a next one.
use Rattle.std.proofs.Common.{ℕ, zero, suc, ◌≡◌, ◌+◌, ◌<◌, ◌≤◌, inl, inr, List, [], ◌∷◌, ◌++◌, length, get_or, set, Some, slice_get, refl, ap, sym, subst, ◌∙◌, Contains, arith, length-set, get_or-set_same, get_or-set_other}
use Rattle.std.proofs.lemmas.Bool.{cases_lt}
use Rattle.std.proofs.lemmas.Option.{slice_get_within}
use Rattle.value_choices.specs.declared.range.Range.{Range}
use Rattle.value_choices.specs.Choices.{Precedes, IsNext, IsLast, IsFirst}
use Rattle.value_choices.specs.Ranges.{options, AreAmong, IsLeastFrom, AreLeast}
use Rattle.value_choices.proofs.Increasing.{get_some}

abbrev IsGreatest : List ℕ → ℕ → Type 0
IsGreatest xs x = (y : ℕ) → Contains xs y → y ≤ x

module _ (ranges : List Range) where
  -- from place i on the old values are the last ones, and now the first ones
  pub record AreWound (old now : List ℕ) (i : ℕ) : Type 0 where
    pub as_many : length now ≡ length old
    pub before : (k : ℕ) → k < i → get_or now k 0 ≡ get_or old k 0
    pub first : (k : ℕ) (r : Range) → i ≤ k → slice_get ranges k ≡ Some r → IsLeastFrom (options r) 0 (get_or now k 0)
    pub last : (k : ℕ) (r : Range) → i ≤ k → slice_get ranges k ≡ Some r → IsGreatest (options r) (get_or old k 0)

  -- and at the place itself the next one stands now
  pub record AreTurned (old now : List ℕ) (i : ℕ) : Type 0 where
    pub as_many : length now ≡ length old
    pub before : (k : ℕ) → k < i → get_or now k 0 ≡ get_or old k 0
    pub range : Range
    pub at : slice_get ranges i ≡ Some range
    pub next : IsLeastFrom (options range) (get_or old i 0 + 1) (get_or now i 0)
    pub first : (k : ℕ) (r : Range) → i < k → slice_get ranges k ≡ Some r → IsLeastFrom (options r) 0 (get_or now k 0)
    pub last : (k : ℕ) (r : Range) → i < k → slice_get ranges k ≡ Some r → IsGreatest (options r) (get_or old k 0)

  read : (xs : List ℕ) (k : ℕ) → length xs ≡ length ranges → k < length xs → (r : Range) × (slice_get ranges k ≡ Some r)
  read xs k e l = get_some ranges k (omega arith)

  -- all are the last ones, and now the first ones
  pub wound_least : (old now : List ℕ) → AreAmong ranges old → AreWound old now 0 → AreLeast ranges now
  wound_least old now a w = record {
    as_many = (let e = a.as_many in let f = w.as_many in omega arith);
    each = λ i r e. w.first i r (omega arith) e;
  }

  pub wound_last : (old now : List ℕ) → AreAmong ranges old → AreWound old now 0 → IsLast (AreAmong ranges) old
  wound_last old now a w others b p =
      let (r, at) = read old p.place a.as_many p.within in
      let m = w.last p.place r (omega arith) at (get_or others p.place 0) (b.each p.place r at) in
      let s = p.smaller in
      omega arith

  pub least_among : (values : List ℕ) → AreLeast ranges values → AreAmong ranges values
  least_among values a = record { as_many = a.as_many; each = λ i r e. (a.each i r e).is }

  pub least_first : (values : List ℕ) → AreLeast ranges values → IsFirst (AreAmong ranges) values
  least_first values a = record {
    is = least_among values a;
    none_before = λ others b p. (
        let (r, at) = read others p.place b.as_many p.within in
        let m = (a.each p.place r at).least (get_or others p.place 0) (b.each p.place r at) (omega arith) in
        let s = p.smaller in
        omega arith);
  }

  module _ (old now : List ℕ) (i : ℕ) (a : AreAmong ranges old) (t : AreTurned old now i) where
    here : i < length old
    here = let l = slice_get_within ranges i t.range t.at in let e = a.as_many in omega arith

    pub turned_among : AreAmong ranges now
    turned_among = record { as_many = t.as_many ∙ a.as_many; each = λ k r e. each k r e }
      where
        each : (k : ℕ) (r : Range) → slice_get ranges k ≡ Some r → Contains (options r) (get_or now k 0)
        each k r e = elim (cases_lt k i) [
          | inl l ↦ subst (Contains (options r)) (sym (t.before k l)) (a.each k r e)
          | inr l ↦ elim (cases_lt i k) [
            | inl m ↦ (t.first k r m e).is
            | inr m ↦ (
                let same : i ≡ k = omega arith in
                let r_is : t.range ≡ r = (let f : Some t.range ≡ Some r = sym t.at ∙ ap (slice_get ranges) same ∙ e in cc) in
                let is : Contains (options r) (get_or now i 0) = subst
                (λ (z : Range). Contains (options z) (get_or now i 0)) r_is t.next.is in
                subst (λ z. Contains (options r) (get_or now z 0)) same is)
          ]
        ]

    pub turned_later : Precedes old now
    turned_later = record {
      place = i;
      within = here;
      same = λ k l. sym (t.before k l);
      smaller = (let m = t.next.from in omega arith);
    }

    none_between : (others : List ℕ) → AreAmong ranges others → Precedes old others → Precedes others now → ⊥
    none_between others b p q = elim (cases_lt p.place i) [
      | inl l ↦ early l
      | inr l ↦ elim (cases_lt i p.place) [
        | inl m ↦ late m
        | inr m ↦ there (let e : p.place ≡ i = omega arith in e)
      ]
    ]
      where
        -- the others are greater before the place
        early : p.place < i → ⊥
        early l = elim (cases_lt q.place p.place) [
          | inl m ↦ (
              let e = p.same q.place m in
              let f = t.before q.place (omega arith) in
              let s = q.smaller in
              omega arith)
          | inr m ↦ (
              let f = t.before p.place l in
              let s = p.smaller in
              elim (cases_lt p.place q.place) [
                | inl n ↦ (let e = q.same p.place n in omega arith)
                | inr n ↦ (
                    let same : q.place ≡ p.place = omega arith in
                    let u : get_or others p.place 0 < get_or now p.place 0 = subst
                    (λ z. get_or others z 0 < get_or now z 0) same q.smaller in
                    omega arith)
              ])
        ]

        -- behind the place the old values are the last ones
        late : i < p.place → ⊥
        late m =
            let (r, at) = read old p.place a.as_many p.within in
            let n = t.last p.place r m at (get_or others p.place 0) (b.each p.place r at) in
            let s = p.smaller in
            omega arith

        -- at the place they have the next one, or a later one
        there : p.place ≡ i → ⊥
        there e =
            let s : get_or old i 0 < get_or others i 0 = subst (λ z. get_or old z 0 < get_or others z 0) e p.smaller in
            let n = t.next.least (get_or others i 0) (b.each i t.range t.at) (omega arith) in
            elim (cases_lt q.place i) [
              | inl l ↦ (
                  let f = p.same q.place (omega arith) in
                  let g = t.before q.place l in
                  let u = q.smaller in
                  omega arith)
              | inr l ↦ elim (cases_lt i q.place) [
                | inl m ↦ (
                    let (r, at) = read others q.place b.as_many q.within in
                    let o = (t.first q.place r m at).least (get_or others q.place 0) (b.each q.place r at) (omega arith) in
                    let u = q.smaller in
                    omega arith)
                | inr m ↦ (
                    let same : q.place ≡ i = omega arith in
                    let u : get_or others i 0 < get_or now i 0 = subst (λ z. get_or others z 0 < get_or now z 0) same q.smaller in
                    omega arith)
              ]
            ]

    pub turned_next : IsNext (AreAmong ranges) old now
    turned_next = record { is = turned_among; later = turned_later; none_between = none_between }

  -- nothing is wound yet
  pub wound_none : (old : List ℕ) (i : ℕ) → length ranges ≤ i → AreWound old old i
  wound_none old i l = record {
    as_many = refl;
    before = λ k m. refl;
    first = λ k r m e. (let w = slice_get_within ranges k r e in absurd (omega arith));
    last = λ k r m e. (let w = slice_get_within ranges k r e in absurd (omega arith));
  }

  module _ (old now new : List ℕ) (i y : ℕ) (r : Range) (at : slice_get ranges i ≡ Some r) (l : i < length now) (s : new ≡ set now i y)
      (w : AreWound old now (i + 1)) where
    as_many : length new ≡ length old
    as_many = ap length s ∙ length-set now i y ∙ w.as_many

    set_here : get_or new i 0 ≡ y
    set_here = ap (λ z. get_or z i 0) s ∙ get_or-set_same now i y 0 l

    set_other : (k : ℕ) → (k ≡ i → ⊥) → get_or new k 0 ≡ get_or now k 0
    set_other k n = ap (λ z. get_or z k 0) s ∙ get_or-set_other now i k y 0 n

    before : (k : ℕ) → k < i → get_or new k 0 ≡ get_or old k 0
    before k m = set_other k (λ e. (let f = ap (λ j. j) e in omega arith)) ∙ w.before k (omega arith)

    first : (k : ℕ) (q : Range) → i < k → slice_get ranges k ≡ Some q → IsLeastFrom (options q) 0 (get_or new k 0)
    first k q m e = subst (IsLeastFrom (options q) 0) (sym (set_other k (λ f. (let g = ap (λ j. j) f in omega arith))))
        (w.first k q (omega arith) e)

    -- the next one of its range stands there now
    pub turned : IsLeastFrom (options r) (get_or now i 0 + 1) y → AreTurned old new i
    turned n = record {
      as_many = as_many;
      before = before;
      range = r;
      at = at;
      next = subst (λ z. IsLeastFrom (options r) z (get_or new i 0)) (ap (λ z. z + 1) (w.before i (omega arith)))
          (subst (IsLeastFrom (options r) (get_or now i 0 + 1)) (sym set_here) n);
      first = first;
      last = λ k q m e. w.last k q (omega arith) e;
    }

    -- there is no next one, and the first one stands there now
    pub wound_more : ((x : ℕ) → Contains (options r) x → get_or now i 0 + 1 ≤ x → ⊥) → IsLeastFrom (options r) 0 y → AreWound old new i
    wound_more n f = record {
      as_many = as_many;
      before = before;
      first = λ k q m e. elim (cases_lt i k) [
        | inl o ↦ first k q o e
        | inr o ↦ (
            let same : i ≡ k = omega arith in
            let q_is : r ≡ q = (let g : Some r ≡ Some q = sym at ∙ ap (slice_get ranges) same ∙ e in cc) in
            let here : IsLeastFrom (options q) 0 (get_or new i 0) = subst (λ z. IsLeastFrom (options q) 0 z) (sym set_here)
            (subst (λ (z : Range). IsLeastFrom (options z) 0 y) q_is f) in
            subst (λ z. IsLeastFrom (options q) 0 (get_or new z 0)) same here)
      ];
      last = λ k q m e. elim (cases_lt i k) [
        | inl o ↦ w.last k q (omega arith) e
        | inr o ↦ (
            let same : i ≡ k = omega arith in
            let q_is : r ≡ q = (let g : Some r ≡ Some q = sym at ∙ ap (slice_get ranges) same ∙ e in cc) in
            let here : IsGreatest (options q) (get_or old i 0) = subst (λ (z : Range). IsGreatest (options z) (get_or old i 0)) q_is
            (subst (IsGreatest (options r)) (w.before i (omega arith)) (greatest n)) in
            subst (λ z. IsGreatest (options q) (get_or old z 0)) same here)
      ];
    }
      where
        greatest : ((x : ℕ) → Contains (options r) x → get_or now i 0 + 1 ≤ x → ⊥) → IsGreatest (options r) (get_or now i 0)
        greatest n x c = elim (cases_lt (get_or now i 0) x) [ inl l ↦ absurd (n x c (omega arith)) | inr l ↦ l ]

  length_push : (xs : List ℕ) (x : ℕ) → length (xs ++ x ∷ []) ≡ length xs + 1
  length_push [] x = refl
  length_push (y ∷ xs) x = let e = length_push xs x in omega arith

  front_same : (xs : List ℕ) (x k : ℕ) → k < length xs → get_or (xs ++ x ∷ []) k 0 ≡ get_or xs k 0
  front_same [] x k l = absurd (omega arith)
  front_same (y ∷ xs) x zero l = refl
  front_same (y ∷ xs) x (suc k) l = front_same xs x k (omega arith)

  last_is : (xs : List ℕ) (x : ℕ) → get_or (xs ++ x ∷ []) (length xs) 0 ≡ x
  last_is [] x = refl
  last_is (y ∷ xs) x = last_is xs x

  -- the least option of one range more
  module _ (i : ℕ) (old new : List ℕ) (x : ℕ) (r : Range) (at : slice_get ranges i ≡ Some r) (n : length old ≡ i)
      (s : new ≡ old ++ x ∷ []) where
    pub least_length : length new ≡ i + 1
    least_length = ap length s ∙ length_push old x ∙ ap (λ z. z + 1) n

    pub least_more : IsLeastFrom (options r) 0 x → ((k : ℕ) (q : Range) → k < i → slice_get ranges k ≡ Some q → IsLeastFrom (options q) 0
        (get_or old k 0))
        → (k : ℕ) (q : Range) → k < i + 1 → slice_get ranges k ≡ Some q → IsLeastFrom (options q) 0 (get_or new k 0)
    least_more h all k q l e = elim (cases_lt k i) [
      | inl m ↦ subst (IsLeastFrom (options q) 0) (sym (ap (λ z. get_or z k 0) s ∙ front_same old x k (omega arith))) (all k q m e)
      | inr m ↦ (
          let same : length old ≡ k = omega arith in
          let q_is : r ≡ q = (let f : Some r ≡ Some q = sym at ∙ ap (slice_get ranges) (sym n ∙ same) ∙ e in cc) in
          let value : x ≡ get_or new k 0 = sym (last_is old x) ∙ ap (λ j. get_or (old ++ x ∷ []) j 0) same ∙ ap (λ z. get_or z k 0)
          (sym s) in
          subst (IsLeastFrom (options q) 0) value (subst (λ (z : Range). IsLeastFrom (options z) 0 x) q_is h))
    ]
