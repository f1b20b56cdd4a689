-- A choice that moves on has fewer values behind it.
use Rattle.std.proofs.Common.{ℕ, zero, suc, ◌≡◌, ◌+◌, ◌*◌, ◌<◌, ◌≤◌, inl, inr, Bool, true, false, cond, filter, List, [], ◌∷◌, length, get_or, refl, ap, sym, ◌∙◌, ltb, Contains, arith}
use Rattle.std.proofs.lemmas.Bool.{lt-ltb, le-ltb, ltb-true, true≢false}
use Rattle.std.proofs.Math.Nat.{mul-le-mul_right}
use Rattle.plan_model.proofs.task_networks.Lists.{head_or_tail, not-in_empty}
use Rattle.value_choices.specs.declared.range.Range.{Range}
use Rattle.value_choices.specs.Choices.{Precedes}
use Rattle.value_choices.specs.Ranges.{options, AreAmong, many, left_behind}

module _ (p q : ℕ → Bool) (to : (z : ℕ) → p z ≡ true → q z ≡ true) where
  count_le : (xs : List ℕ) → length (filter p xs) ≤ length (filter q xs)
  count_le [] = omega arith
  count_le (x ∷ xs) = by (p x) (q x) (to x) (count_le xs)
    where
      by : (a b : Bool) → (a ≡ true → b ≡ true) → length (filter p xs) ≤ length (filter q xs)
          → length (cond a (x ∷ filter p xs) (filter p xs)) ≤ length (cond b (x ∷ filter q xs) (filter q xs))
      by true true f l = omega arith
      by true false f l = absurd (true≢false (sym (f refl)))
      by false true f l = omega arith
      by false false f l = l

  count_less : (xs : List ℕ) (y : ℕ) → Contains xs y → p y ≡ false → q y ≡ true → length (filter p xs) < length (filter q xs)
  count_less [] y c f t = absurd (not-in_empty y c)
  count_less (x ∷ xs) y c f t = elim (head_or_tail x xs y c) [
    | inl e ↦ here (p x) (q x) (ap p e ∙ f) (ap q e ∙ t)
    | inr r ↦ there (p x) (q x) (to x) (count_less xs y r f t)
  ]
    where
      here : (a b : Bool) → a ≡ false → b ≡ true → length (cond a (x ∷ filter p xs) (filter p xs)) < length
          (cond b (x ∷ filter q xs) (filter q xs))
      here true b e g = absurd (true≢false e)
      here false true e g = let l = count_le xs in omega arith
      here false false e g = absurd (true≢false (sym g))

      there : (a b : Bool) → (a ≡ true → b ≡ true) → length (filter p xs) < length (filter q xs)
          → length (cond a (x ∷ filter p xs) (filter p xs)) < length (cond b (x ∷ filter q xs) (filter q xs))
      there true true g l = omega arith
      there true false g l = absurd (true≢false (sym (g refl)))
      there false true g l = omega arith
      there false false g l = l

count_most : (p : ℕ → Bool) (xs : List ℕ) → length (filter p xs) ≤ length xs
count_most p [] = omega arith
count_most p (x ∷ xs) = by (p x) (count_most p xs)
  where
    by : (a : Bool) → length (filter p xs) ≤ length xs → length (cond a (x ∷ filter p xs) (filter p xs)) ≤ suc (length xs)
    by true l = omega arith
    by false l = omega arith

not_less : (x y : ℕ) → x ≤ y → ltb y x ≡ false
not_less x y l = le-ltb y x l

above : (xs : List ℕ) (x y : ℕ) → x < y → Contains xs y → length (filter (λ z. ltb y z) xs) < length (filter (λ z. ltb x z) xs)
above xs x y l c =
    count_less (λ z. ltb y z) (λ z. ltb x z) (λ z t. lt-ltb x z (let m = ltb-true y z t in omega arith)) xs y c
    (not_less y y (omega arith)) (lt-ltb x y l)

itself : (xs : List ℕ) (x : ℕ) → Contains xs x → length (filter (λ z. ltb x z) xs) < length xs
itself xs x c =
    let m = count_less (λ z. ltb x z) (λ z. true) (λ z t. refl) xs x c (not_less x x (omega arith)) refl in
    let n = count_most (λ z. true) xs in
    omega arith

among_tail : (r : Range) (rs : List Range) (x : ℕ) (xs : List ℕ) → AreAmong (r ∷ rs) (x ∷ xs) → AreAmong rs xs
among_tail r rs x xs a = record { as_many = (let e = a.as_many in omega arith); each = λ i s e. a.each (suc i) s e }

among_head : (r : Range) (rs : List Range) (x : ℕ) (xs : List ℕ) → AreAmong (r ∷ rs) (x ∷ xs) → Contains (options r) x
among_head r rs x xs a = a.each 0 r refl

below_many : (rs : List Range) (xs : List ℕ) → AreAmong rs xs → left_behind rs xs < many rs
below_many [] xs a = omega arith
below_many (r ∷ rs) [] a = absurd (let e = a.as_many in omega arith)
below_many (r ∷ rs) (x ∷ xs) a =
    let l = below_many rs xs (among_tail r rs x xs a) in
    let n = itself (options r) x (among_head r rs x xs a) in
    let m : (length (filter (λ z. ltb x z) (options r)) + 1) * many rs ≤ length (options r) * many rs = mul-le-mul_right (many rs)
    (omega arith) in
    omega arith

pub fewer_at : (k : ℕ) (rs : List Range) (xs ys : List ℕ) → AreAmong rs xs → AreAmong rs ys → k < length xs
    → ((i : ℕ) → i < k → get_or xs i 0 ≡ get_or ys i 0) → get_or xs k 0 < get_or ys k 0 → left_behind rs ys < left_behind rs xs
fewer_at k rs [] ys a b l s m = absurd (omega arith)
fewer_at k [] (x ∷ xs) ys a b l s m = absurd (let e = a.as_many in omega arith)
fewer_at k (r ∷ rs) (x ∷ xs) [] a b l s m = absurd (let e = b.as_many in omega arith)
fewer_at zero (r ∷ rs) (x ∷ xs) (y ∷ ys) a b l s m =
    let n = below_many rs ys (among_tail r rs y ys b) in
    let o = above (options r) x y m (among_head r rs y ys b) in
    let p : (length (filter (λ z. ltb y z) (options r)) + 1) * many rs ≤ length
    (filter (λ z. ltb x z) (options r)) * many rs = mul-le-mul_right (many rs) (omega arith) in
    omega arith
fewer_at (suc k) (r ∷ rs) (x ∷ xs) (y ∷ ys) a b l s m =
    let e : x ≡ y = s 0 (omega arith) in
    let n = fewer_at k rs xs ys (among_tail r rs x xs a) (among_tail r rs y ys b) (omega arith) (λ i o. s (suc i) (omega arith)) m in
    let f : length (filter (λ z. ltb x z) (options r)) * many rs ≡ length (filter (λ z. ltb y z) (options r)) * many rs = ap
    (λ w. length (filter (λ z. ltb w z) (options r)) * many rs) e in
    omega arith

pub fewer : (rs : List Range) (xs ys : List ℕ) → AreAmong rs xs → AreAmong rs ys → Precedes xs ys → left_behind rs ys < left_behind rs xs
fewer rs xs ys a b p = fewer_at p.place rs xs ys a b p.within p.same p.smaller
