-- A length with many slots, from three that are on a line with it.
use Rattle.std.proofs.Common.{ℕ, ◌≡◌, ◌+◌, ◌-◌, ◌*◌, ◌^◌, ◌<◌, min, inl, inr, ap, ◌∙◌, arith}
use Rattle.std.proofs.lemmas.Bool.{cases_lt}
use Rattle.std.proofs.Math.Nat.{mul_comm}
use Rattle.text_forms.specs.sheets.Sheets.{capped}
use Rattle.slot_encoding.specs.encoded_texts.Growth.{further_digits, AreOnLine}
use Rattle.problem_texts.specs.FewSlots.{AreCapped}
use Rattle.problem_texts.specs.declared.growth.FewSlots.{FewSlots}

under : (n k : ℕ) → k ≡ capped n → (k ≡ 2 ^ 64 - 1 → ⊥) → n < 2 ^ 64 - 1
under n k e apart = elim (cases_lt n (2 ^ 64 - 1)) [ inl l ↦ l | inr l ↦ absurd (apart (omega (arith, e, l))) ]

module _ (slots : ℕ) (few : FewSlots) (one two ten all : ℕ) (line : AreOnLine slots one two ten all) (counted : AreCapped one two ten few) (many : 10 < slots) where
  open line use {first, step as each, more as further}

  -- where that with ten slots does not pass 64 bits, the three lengths are as they were counted
  pub told : (few.ten ≡ 2 ^ 64 - 1 → ⊥) → (step more : ℕ) → step ≡ few.two - few.one → more ≡ (few.ten - few.one) - min (step * 9) (2 ^ 64 - 1)
      → min (min (few.one + min (step * (slots - 1)) (2 ^ 64 - 1)) (2 ^ 64 - 1) + min (more * further_digits slots) (2 ^ 64 - 1)) (2 ^ 64 - 1) ≡ capped all
  told apart step more s m =
      let a = counted.one_is in
      let b = counted.two_is in
      let t = counted.ten_is in
      let x = line.one_is in
      let y = line.two_is in
      let z = line.ten_is in
      let w = line.all_is in
      let low : ten < 2 ^ 64 - 1 = under ten few.ten t apart in
      let st : step ≡ each = omega (arith, a, b, s, x, y, z, low) in
      let mo : more ≡ further = omega (arith, a, b, t, m, st, x, y, z, low) in
      let p = ap (λ k. k * (slots - 1)) st ∙ mul_comm each (slots - 1) in
      let q = ap (λ k. k * further_digits slots) mo ∙ mul_comm further (further_digits slots) in
      let f : few.one ≡ first = omega (arith, a, x, z, low) in
      omega (arith, p, q, f, w)
