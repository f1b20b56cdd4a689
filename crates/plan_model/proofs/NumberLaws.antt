-- Numbers of lists: lists with numbers have different ones, and a list is numbered from its last object to its first.
use Rattle.std.proofs.Common.{ℕ, zero, suc, ◌≡◌, ◌+◌, ◌-◌, ◌*◌, ◌%◌, ◌/◌, ◌<◌, ◌≤◌, ◌^◌, ◌&&◌, Bool, true, false, List, [], ◌∷◌, length, get_or, drop, Option, Some, None, refl, ap, sym, subst, ◌∙◌, arith}
use Rattle.std.specs.Prelude.{nat_lt, cond}
use Rattle.std.specs.Option.{option_and_then}
use Rattle.std.proofs.lemmas.Bool.{ltb-true, lt-ltb}
use Rattle.std.proofs.lemmas.Nat.{mod-mul-add, div-mul-add}
use Rattle.std.proofs.Math.Nat.{le-mul_of_pos_right, mul-le-mul_left}
use Rattle.std.proofs.lemmas.List.{drop_more}
use Rattle.plan_model.specs.Numbers.{with_digit, number}

module _ (most room : ℕ) where
  -- the number that a digit is put behind
  abbrev IsPutBehind : ℕ → ℕ → ℕ → Type 0
  IsPutBehind x n k = (x < most + 1) × (n * (most + 2) + x < room) × (k ≡ n * (most + 2) + x)

  put_behind : (x n k : ℕ) → with_digit most room x n ≡ Some k → IsPutBehind x n k
  put_behind x n k e = by (nat_lt x (most + 1)) (nat_lt (n * (most + 2) + x) room) refl refl e
    where
      by : (b c : Bool) → nat_lt x (most + 1) ≡ b → nat_lt (n * (most + 2) + x) room ≡ c → cond (b && c) (Some (n * (most + 2) + x)) None ≡ Some k → IsPutBehind x n k
      by true true d f g = (ltb-true x (most + 1) d, ltb-true (n * (most + 2) + x) room f, cc)
      by true false d f g = absurd cc
      by false c d f g = absurd cc

  -- the number of the rest, and what is put behind it
  pub parts_of : (x : ℕ) (xs : List ℕ) (k : ℕ) → number most room (x ∷ xs) ≡ Some k → (n : ℕ) × (number most room xs ≡ Some n) × IsPutBehind x n k
  parts_of x xs k e = by (number most room xs) refl e
    where
      by : (o : Option ℕ) → number most room xs ≡ o → option_and_then (with_digit most room x) o ≡ Some k → (n : ℕ) × (number most room xs ≡ Some n) × IsPutBehind x n k
      by (Some n) d f = (n, d, put_behind x n k f)
      by None d f = absurd cc

  is_positive : (xs : List ℕ) (n : ℕ) → number most room xs ≡ Some n → 0 < n
  is_positive [] n e = let d : 1 ≡ n = cc in omega (arith, d)
  is_positive (x ∷ xs) n e =
      let p = parts_of x xs n e in
      let m = is_positive xs p.0 p.1 in
      let l : p.0 ≤ p.0 * (most + 2) = le-mul_of_pos_right p.0 (omega arith) in
      let k = p.2.2 in
      omega (arith, l, m, k)

  more_than_one : (x : ℕ) (xs : List ℕ) → number most room (x ∷ xs) ≡ Some 1 → ⊥
  more_than_one x xs e =
      let p = parts_of x xs 1 e in
      let m = is_positive xs p.0 p.1 in
      more p.0 x m p.2.2
    where
      more : (n x : ℕ) → 0 < n → 1 ≡ n * (most + 2) + x → ⊥
      more zero x m k = omega (arith, m)
      more (suc n) x m k = omega (arith, k)

  -- lists with one number are one list
  pub same_number : (xs ys : List ℕ) (n : ℕ) → number most room xs ≡ Some n → number most room ys ≡ Some n → xs ≡ ys
  same_number [] [] n e f = refl
  same_number [] (y ∷ ys) n e f = absurd (more_than_one y ys (f ∙ sym e))
  same_number (x ∷ xs) [] n e f = absurd (more_than_one x xs (e ∙ sym f))
  same_number (x ∷ xs) (y ∷ ys) n e f =
      let p = parts_of x xs n e in
      let q = parts_of y ys n f in
      let l : x < most + 2 = (let i = p.2.0 in omega (arith, i)) in
      let k : y < most + 2 = (let i = q.2.0 in omega (arith, i)) in
      let one : p.0 * (most + 2) + x ≡ q.0 * (most + 2) + y = sym p.2.2 ∙ q.2.2 in
      let digit : x ≡ y = sym (mod-mul-add p.0 (most + 2) x l) ∙ ap (λ i. i % (most + 2)) one ∙ mod-mul-add q.0 (most + 2) y k in
      let front : p.0 ≡ q.0 = sym (div-mul-add p.0 (most + 2) x l) ∙ ap (λ i. i / (most + 2)) one ∙ div-mul-add q.0 (most + 2) y k in
      let rest : xs ≡ ys = same_number xs ys p.0 p.1 (q.1 ∙ ap (λ i. Some i) (sym front)) in
      ap (λ z. z ∷ xs) digit ∙ ap (λ zs. y ∷ zs) rest

  -- from one place of the list on, where it has the number
  pub number_from : (xs : List ℕ) (i x n : ℕ) → i < length xs → number most room (drop (i + 1) xs) ≡ Some n → number most room (drop i xs) ≡ with_digit most room (get_or xs i x) n
  number_from xs i x n l e = ap (number most room) (drop_more xs i x l) ∙ ap (option_and_then (with_digit most room (get_or xs i x))) e

  -- where a part at the end has none, the whole has none
  pub no_number : (xs : List ℕ) (i : ℕ) → number most room (drop i xs) ≡ None → number most room xs ≡ None
  no_number xs zero e = e
  no_number [] (suc i) e = e
  no_number (x ∷ xs) (suc i) e = ap (option_and_then (with_digit most room x)) (no_number xs i e)

  module _ (xs : List ℕ) (i x n : ℕ) (l : 0 < i) (m : i ≤ length xs) (at : x ≡ get_or xs (i - 1) 0) (e : number most room (drop i xs) ≡ Some n) where
    one_more : number most room (drop (i - 1) xs) ≡ with_digit most room x n
    one_more =
        let next : i ≡ i - 1 + 1 = omega (arith, l) in
        number_from xs (i - 1) 0 n (omega (arith, l, m)) (subst (λ k. number most room (drop k xs) ≡ Some n) next e) ∙ ap (λ y. with_digit most room y n) (sym at)

    -- with the object before that place
    pub next_number : (k : ℕ) → Some k ≡ with_digit most room x n → number most room (drop (i - 1) xs) ≡ Some k
    next_number k d = one_more ∙ sym d

    -- where there is no such number, the list has none
    pub ends_there : None ≡ with_digit most room x n → None ≡ number most room xs
    ends_there d = sym (no_number xs (i - 1) (one_more ∙ sym d))

  is_put : (x n k : ℕ) → x < most + 1 → n * (most + 2) + x < room → n * (most + 2) + x ≡ k → Some k ≡ with_digit most room x n
  is_put x n k l m e =
      sym (ap (λ b. cond (b && nat_lt (n * (most + 2) + x) room) (Some (n * (most + 2) + x)) None) (lt-ltb x (most + 1) l)
      ∙ ap (λ b. cond b (Some (n * (most + 2) + x)) None) (lt-ltb (n * (most + 2) + x) room m)
      ∙ ap (λ i. Some i) e)

  -- the same for lists that differ in the object x, and whose numbers are a first one and steps
  pub next_in_row : (xs : List ℕ) (i x count first step a b : ℕ) → 0 < i → i ≤ length xs → x < count → a + b * x ≡ get_or xs (i - 1) 0 → a + b * count ≤ most + b
      → first * (most + 2) + a + (step * (most + 2) + b) * count < room → number most room (drop i xs) ≡ Some (first + step * x)
      → number most room (drop (i - 1) xs) ≡ Some (first * (most + 2) + a + (step * (most + 2) + b) * x)
  next_in_row xs i x count first step a b l m k at digits fits e =
      let below : b * (x + 1) ≤ b * count = mul-le-mul_left b (omega (arith, k)) in
      let steps : (step * (most + 2) + b) * x ≤ (step * (most + 2) + b) * count = mul-le-mul_left (step * (most + 2) + b) (omega (arith, k)) in
      let same : (first + step * x) * (most + 2) + (a + b * x) ≡ first * (most + 2) + a + (step * (most + 2) + b) * x = omega arith in
      let small : a + b * x < most + 1 = omega (arith, below, digits) in
      next_number xs i (a + b * x) (first + step * x) l m at e _ (is_put (a + b * x) (first + step * x) _ small (omega (arith, steps, fits, same)) same)

-- the number of a row at one of the first objects is small
pub row_within : (first step x count : ℕ) → x < count → first + step * count < 2 ^ 32 → first + step * x < 2 ^ 32
row_within first step x count l s = let m : step * x ≤ step * count = mul-le-mul_left step (omega (arith, l)) in omega (arith, m, s)
