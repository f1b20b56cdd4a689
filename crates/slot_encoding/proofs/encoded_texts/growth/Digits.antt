-- How many letters the words of so many slots have.
use Rattle.std.proofs.Common.{ℕ, zero, suc, ◌≡◌, ◌+◌, ◌-◌, ◌*◌, ◌/◌, ◌%◌, ◌^◌, ◌<◌, ◌≤◌, inl, inr, [], ◌∷◌, ◌++◌, length, codes, decimal, refl, ap, ◌∙◌, arith}
use Rattle.std.specs.Prelude.{sum_by}
use Rattle.std.proofs.lemmas.Fmt.{decimal_digit, decimal_step}
use Rattle.std.proofs.lemmas.List.{length-append}
use Rattle.std.proofs.lemmas.List.Sums.{sum_by_push}
use Rattle.std.proofs.lemmas.Bool.{cases_lt}
use Rattle.std.proofs.lemmas.Nat.{le-div}
use Rattle.std.proofs.Math.Nat.{pow-suc}
use Rattle.htn_base.specs.Escapes.{slot_word}
use Rattle.plan_model.specs.task_networks.Spelling.{numbers}
use Rattle.slot_encoding.proofs.encoded_texts.growth.Lines.{letters}

-- of how many of the numbers from 1 to m the numeral has a digit past the j-th, the digits past the tenth aside
abbrev pub digits_past : ℕ → ℕ → ℕ
digits_past zero m = 0
digits_past (suc j) m = digits_past j m + (m + 1 - 10 ^ suc j)

push-numbers : (i n : ℕ) → numbers i (suc n) ≡ numbers i n ++ (i + n) ∷ []
push-numbers i zero = let e : i ≡ i + 0 = omega arith in ap (λ z. z ∷ []) e
push-numbers i (suc n) = let e : suc i + n ≡ i + suc n = omega arith in ap (λ z. i ∷ z) (push-numbers (suc i) n ∙ ap (λ z. numbers (suc i) n ++ z ∷ []) e)

-- how many of the first j powers of ten past the zeroth are at most n
abbrev powers : ℕ → ℕ → ℕ
powers zero n = 0
powers (suc j) n = powers j n + ((n + 1 - 10 ^ suc j) - (n - 10 ^ suc j))

step-past : (j m : ℕ) → digits_past j (suc m) ≡ digits_past j m + powers j (suc m)
step-past zero m = refl
step-past (suc j) m = let e = step-past j m in let p = 10 ^ suc j in omega (arith, e)

-- the powers grow
grows : (j : ℕ) → (10 ^ suc j ≡ 10 ^ j * 10)
grows j = pow-suc 10 j

all_powers : (j n : ℕ) → 10 ^ j ≤ n → powers j n ≡ j
all_powers zero n l = refl
all_powers (suc j) n l =
    let g = grows j in
    let e = all_powers j n (omega (arith, g, l)) in
    omega (arith, e, l)

no_power : (j n : ℕ) → n < 10 ^ suc j → powers (suc j) n ≡ powers j n
no_power j n l = omega (arith, l)

-- a number between two powers has so many digits
count-digits : (j n : ℕ) → n < 2 ^ 64 → 10 ^ j ≤ n → n < 10 ^ suc j → length (decimal n) ≡ suc j
count-digits zero n s l h = ap length (decimal_digit n (omega (arith, h)))
count-digits (suc j) n s l h =
    let g = grows j in
    let k = grows (suc j) in
    let low : 10 ^ j ≤ n / 10 = le-div (10 ^ j) n 10 (omega arith) (omega (arith, g, l)) in
    let high : n / 10 < 10 ^ suc j = omega (arith, k, h) in
    let ten : 10 ≤ n = (let p = pow-one j in omega (arith, g, l, p)) in
    let e = count-digits j (n / 10) (omega (arith, s)) low high in
    let d = ap length (decimal_step n ten s) in
    let a = length-append (decimal (n / 10)) ((48 + n % 10) ∷ []) in
    omega (arith, e, d, a)
  where
    pow-one : (j : ℕ) → 1 ≤ 10 ^ j
    pow-one zero = omega arith
    pow-one (suc j) = let g = grows j in let p = pow-one j in omega (arith, g, p)

digits-are : (j n : ℕ) → n < 2 ^ 64 → n < 10 ^ suc j → length (decimal n) ≡ suc (powers j n)
digits-are zero n s l = ap length (decimal_digit n (omega (arith, l)))
digits-are (suc j) n s l = elim (cases_lt n (10 ^ suc j)) [
  | inl h ↦ (let e = digits-are j n s h in let p = no_power j n h in omega (arith, e, p))
  | inr h ↦ (let e = count-digits (suc j) n s h l in let p = all_powers (suc j) n h in omega (arith, e, p))
]

pub letters-are : (m : ℕ) → m < 10 ^ 10 → letters m ≡ 6 * m + digits_past 9 m
letters-are zero l = refl
letters-are (suc m) l =
    let e = letters-are m (omega (arith, l)) in
    let p : letters (suc m) ≡ letters m + length (slot_word (1 + m)) = ap (sum_by (λ k. length (slot_word k))) (push-numbers 1 m) ∙ sum_by_push (λ k. length (slot_word k)) (numbers 1 m) (1 + m) in
    let n : 1 + m ≡ suc m = omega arith in
    let d = ap (λ k. length (decimal k)) n ∙ digits-are 9 (suc m) (omega (arith, l)) l in
    let s = step-past 9 m in
    let w : length (slot_word (1 + m)) ≡ 5 + length (decimal (1 + m)) = length-append (codes "htn_s") (decimal (1 + m)) in
    omega (arith, e, p, d, s, w)
