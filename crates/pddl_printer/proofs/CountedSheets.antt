-- What is counted on a sheet that takes nothing more.
use Rattle.std.proofs.Common.{ℕ, zero, suc, ◌≡◌, ◌+◌, ◌-◌, ◌*◌, ◌^◌, ◌<◌, inl, inr, false, List, [], length, refl, ap, sym, ◌∙◌, arith}
use Rattle.std.specs.Prelude.{min}
use Rattle.std.proofs.Math.Nat.{suc-mul, mul_comm}
use Rattle.std.proofs.lemmas.Bool.{cases_lt}
use Rattle.std.proofs.lemmas.List.{append-nil}
use Rattle.text_forms.specs.sheets.Sheets.{capped, Wrote, Counts}
use Rattle.text_forms.specs.declared.sheets.sheet.Sheet.{Sheet}

-- some bytes were put and some only counted: others were put, if they are as many in all
pub wrote-skipped : {a : List ℕ} (b : List ℕ) (n : ℕ) {s t u : Sheet} → s.whole ≡ false → Wrote a s t → Counts n t u → capped (t.count + n) ≡ capped (s.count + length b) → Wrote b s u
wrote-skipped b n {s = s} {t = t} {u = u} over w c e = record {
  same_text = ap (λ z. z.ghost_name) c.same_into ∙ w.same_text;
  same_limit = c.same_limit ∙ w.same_limit;
  all = λ f. absurd (let g = (w.all (sym c.same_whole ∙ f)).0 in cc);
  prefix = ([], b, refl, ap (λ z. z.now) c.same_into ∙ w.stopped over ∙ sym (append-nil s.into.now));
  stopped = λ f. ap (λ z. z.now) c.same_into ∙ w.stopped f;
  counted = let d = c.counted in omega (arith, d, e);
  within = λ f l. absurd (let g = (w.all (sym c.same_whole ∙ f)).0 in cc);
  wanting = λ f. c.same_wanting ∙ w.wanting f;
  cause = λ f. inl over;
}

-- so many times a length
pub times_capped : (k n : ℕ) → min (k * capped n) (2 ^ 64 - 1) ≡ capped (k * n)
times_capped zero n = omega arith
times_capped (suc k) n =
    let a = suc-mul k (capped n) in
    let b = suc-mul k n in
    by k n (suc k * capped n) (suc k * n) a b
  where
    by : (k n p q : ℕ) → p ≡ k * capped n + capped n → q ≡ k * n + n → min p (2 ^ 64 - 1) ≡ min q (2 ^ 64 - 1)
    by k n p q a b = elim (cases_lt n (2 ^ 64)) [
      | inl l ↦ (let e : capped n ≡ n = omega arith in let f : p ≡ q = a ∙ (λ i. k * e i + e i) ∙ sym b in ap (λ z. min z (2 ^ 64 - 1)) f)
      | inr l ↦ omega arith
    ]

pub both_capped : (h k : ℕ) → capped (capped h * capped k) ≡ capped (h * k)
both_capped h k = times_capped (capped h) k ∙ ap capped (mul_comm (capped h) k) ∙ times_capped k h ∙ ap capped (mul_comm k h)

-- Own bytes F were counted at one of c things, and the rest of them all: F of each other one, and h times the letters k. Where the count
-- is as far as it goes after the first, it stays there.
pub all-counted : (s t F c m h k n : ℕ) → s < 2 ^ 64 → t ≡ capped (s + F) → c ≡ suc m → n ≡ capped (capped (m * (t - s)) + capped (capped h * capped k)) → capped (t + n) ≡ capped (s + (c * F + h * k))
all-counted s t F c m h k n l e i d = elim (cases_lt (s + F) (2 ^ 64)) [
  | inl b ↦ few (omega arith) (omega arith)
  | inr b ↦ (let p = product in omega (arith, b, e, p))
]
  where
    product : c * F ≡ m * F + F
    product = ap (λ z. z * F) i ∙ suc-mul m F

    few : t ≡ s + F → t - s ≡ F → capped (t + n) ≡ capped (s + (c * F + h * k))
    few x y = let q = ap (λ z. m * z) y in let p = product in let r = both_capped h k in omega (arith, d, p, q, r, x)
