-- The numbers of the methods that have checks, and how many of them come before a method.
use Rattle.std.proofs.Common.{ℕ, zero, suc, ◌≡◌, ◌+◌, ◌<◌, Bool, true, false, cond, List, [], ◌∷◌, ◌++◌, take, length, get_or, refl, ap, sym, subst, ◌∙◌, arith}
use Rattle.std.proofs.lemmas.List.{take_more}
use Rattle.plan_model.specs.declared.schemas.MethodPlan.{MethodPlan}
use Rattle.slot_encoding.specs.slot_declarations.Frames.{AreChecks}
use Rattle.slot_encoding.specs.slot_declarations.Pieces.{checked, checked_from, if_checked}
use Rattle.slot_encoding.specs.declared.slot_declarations.basis.Checks.{Checks}

pub checked_from-length : (m : ℕ) (plans : List MethodPlan) → length (checked_from m plans) ≡ length (checked plans)
checked_from-length m [] = refl
checked_from-length m (plan ∷ plans) = by plan.checked (checked_from-length (suc m) plans)
  where
    by : (t : Bool) → length (checked_from (suc m) plans) ≡ length (checked plans)
        → length (cond t (m ∷ checked_from (suc m) plans) (checked_from (suc m) plans)) ≡ length (cond t (plan ∷ checked plans) (checked plans))
    by true e = ap suc e
    by false e = e

checked_from-push : (m : ℕ) (plans : List MethodPlan) (x : MethodPlan) → checked_from m (plans ++ x ∷ []) ≡ checked_from m plans ++ if_checked x (m + length plans)
checked_from-push m [] x = ap (λ k. if_checked x k) (let e : m ≡ m + 0 = omega arith in e)
checked_from-push m (plan ∷ plans) x = by plan.checked (checked_from-push (suc m) plans x ∙ ap (λ k. checked_from (suc m) plans ++ if_checked x k) (let e : suc m + length plans ≡ m + suc (length plans) = omega arith in e))
  where
    by : (t : Bool) → checked_from (suc m) (plans ++ x ∷ []) ≡ checked_from (suc m) plans ++ if_checked x (m + suc (length plans))
        → cond t (m ∷ checked_from (suc m) (plans ++ x ∷ [])) (checked_from (suc m) (plans ++ x ∷ []))
        ≡ cond t (m ∷ checked_from (suc m) plans) (checked_from (suc m) plans) ++ if_checked x (m + suc (length plans))
    by true e = ap (λ ms. m ∷ ms) e
    by false e = e

checked-within : (m : ℕ) (plans : List MethodPlan) (j : ℕ) → j < length (checked_from m plans) → get_or (checked_from m plans) j 0 < m + length plans
checked-within m [] j l = absurd (omega arith)
checked-within m (plan ∷ plans) j l = by plan.checked j l (λ k h. (let g = checked-within (suc m) plans k h in omega arith))
  where
    by : (t : Bool) (j : ℕ) → j < length (cond t (m ∷ checked_from (suc m) plans) (checked_from (suc m) plans))
        → ((k : ℕ) → k < length (checked_from (suc m) plans) → get_or (checked_from (suc m) plans) k 0 < m + suc (length plans))
        → get_or (cond t (m ∷ checked_from (suc m) plans) (checked_from (suc m) plans)) j 0 < m + suc (length plans)
    by true zero l later = omega arith
    by true (suc j) l later = later j (omega arith)
    by false j l later = later j l

module _ (plans : List MethodPlan) (v : Checks) (are : AreChecks plans v) where
  pub checks-count : length v.methods ≡ length (checked plans)
  checks-count = ap length are.methods ∙ checked_from-length 0 plans

  pub check-within : (j m : ℕ) → j < length v.methods → m ≡ get_or v.methods j 0 → m < length plans
  check-within j m l e =
      let h = checked-within 0 plans j (subst (λ ms. j < length ms) are.methods l) in
      let g : m ≡ get_or (checked_from 0 plans) j 0 = e ∙ ap (λ ms. get_or ms j 0) are.methods in
      omega (arith, h, g)

-- one method more
pub checked_next : (plans : List MethodPlan) (i : ℕ) (x : MethodPlan) (now next : List ℕ) (m : ℕ) → i < length plans → x ≡ get_or plans i x → now ≡ checked_from 0 (take i plans)
    → m ≡ length (take i plans) → next ≡ now ++ if_checked x m → next ≡ checked_from 0 (take (i + 1) plans)
checked_next plans i x now next m l e g k h =
    h ∙ ap (λ z. z ++ if_checked x m) g ∙ ap (λ j. checked_from 0 (take i plans) ++ if_checked x j) (let e : m ≡ 0 + length (take i plans) = omega (arith, k) in e) ∙ sym (checked_from-push 0 (take i plans) x)
    ∙ ap (λ y. checked_from 0 (take i plans ++ y ∷ [])) e ∙ ap (checked_from 0) (sym (take_more plans i x l))
