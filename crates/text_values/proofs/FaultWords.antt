-- The codes that no fault has, which have no word.
use Rattle.std.proofs.Common.{ℕ, zero, suc, ◌≡◌, ◌+◌, ◌-◌, ◌≤◌, [], refl, subst, arith}
use Rattle.std.proofs.lemmas.List.{get_or_past}
use Rattle.text_values.specs.FaultWords.{fault_words, fault_word}

between : (k : ℕ) → k ≤ 6 → fault_word (23 + k) ≡ []
between zero few = refl
between (suc zero) few = refl
between (suc (suc zero)) few = refl
between (suc (suc (suc zero))) few = refl
between (suc (suc (suc (suc zero)))) few = refl
between (suc (suc (suc (suc (suc zero))))) few = refl
between (suc (suc (suc (suc (suc (suc zero)))))) few = refl
between (suc (suc (suc (suc (suc (suc (suc k))))))) few = absurd (omega (arith, few))

pub none_between : (code : ℕ) → 23 ≤ code → code ≤ 29 → fault_word code ≡ []
none_between code from to =
    let is : 23 + (code - 23) ≡ code = omega (arith, from) in
    let few : code - 23 ≤ 6 = omega (arith, from, to) in subst (λ z. fault_word z ≡ []) is (between (code - 23) few)

pub none_past : (code : ℕ) → 37 ≤ code → fault_word code ≡ []
none_past code from = get_or_past fault_words code [] from
