-- Numbers that grow with the number of slots: by a step for each slot past the first, and with the letters of all slots' words.
use Rattle.std.proofs.Common.{ℕ, suc, ◌≡◌, ◌+◌, ◌*◌, ◌≤◌, ap, ◌∙◌, arith}
use Rattle.std.specs.Prelude.{length, sum_by}
use Rattle.std.proofs.Math.Nat.{add-mul, mul-add, mul_comm}
use Rattle.htn_base.specs.Escapes.{slot_word}
use Rattle.plan_model.specs.task_networks.Spelling.{numbers}

-- of the words of so many slots
abbrev pub letters : ℕ → ℕ
letters m = sum_by (λ k. length (slot_word k)) (numbers 1 m)

-- up to so many slots
pub record IsLine (most : ℕ) (F : ℕ → ℕ) : Type 0 where
  pub first : ℕ
  pub step : ℕ
  pub more : ℕ
  pub is : (j : ℕ) → suc j ≤ most → F (suc j) ≡ first + j * step + letters (suc j) * more

module _ {most : ℕ} where
  pub still : (F : ℕ → ℕ) (k : ℕ) → ((m : ℕ) → m ≤ most → F m ≡ k) → IsLine most F
  still F k e = record { first = k; step = 0; more = 0; is = λ j l. (let h = e (suc j) l in omega (arith, h)) }

  pub like : (F G : ℕ → ℕ) → ((m : ℕ) → m ≤ most → F m ≡ G m) → IsLine most G → IsLine most F
  like F G e line = record { first = line.first; step = line.step; more = line.more; is = λ j l. e (suc j) l ∙ line.is j l }

  pub both : (F G : ℕ → ℕ) → IsLine most F → IsLine most G → IsLine most (λ m. F m + G m)
  both F G one other = record {
    first = one.first + other.first;
    step = one.step + other.step;
    more = one.more + other.more;
    is = λ j l.
        let a = one.is j l in
        let b = other.is j l in
        let d = mul-add j one.step other.step in
        let e = mul-add (letters (suc j)) one.more other.more in
        omega (arith, a, b, d, e);
  }

  -- something for each slot, and for so many places of its word
  pub of_slots : (F : ℕ → ℕ) (k h : ℕ) → ((m : ℕ) → m ≤ most → F m ≡ m * k + h * letters m) → IsLine most F
  of_slots F k h e = record {
    first = k;
    step = k;
    more = h;
    is = λ j l.
        let a = e (suc j) l in
        let d = add-mul 1 j k in
        let n : suc j ≡ 1 + j = omega arith in
        let f : suc j * k ≡ (1 + j) * k = ap (λ z. z * k) n in
        let g = mul_comm h (letters (suc j)) in
        omega (arith, a, d, f, g);
  }
