-- The slot variables of the children, and their values.
use Rattle.std.proofs.Common.{ℕ, zero, suc, ◌≡◌, ◌+◌, ◌<◌, ◌≤◌, List, [], ◌∷◌, map, Some, ◌==◌, cond, true, false, refl, ap, ◌∙◌, arith}
use Rattle.plan_model.specs.task_networks.Spelling.{numbers}
use Rattle.slot_machine.specs.Machine.{insert_at}
use Rattle.slot_encoding.specs.EncodedActions.{slot_vars}

-- after the heir there are new ones alone
vars_after : (k i v n : ℕ) → k < i → slot_vars (Some k) i v n ≡ numbers v n
vars_after k i v zero l = refl
vars_after k i v (suc n) l =
    let e : (k == i) ≡ false = grind arith in
    ap (λ q. cond q (0 ∷ slot_vars (Some k) (suc i) v n) (v ∷ slot_vars (Some k) (suc i) (suc v) n)) e ∙ ap (λ z. v ∷ z) (vars_after k (suc i) (suc v) n (omega arith))

vars_from : (k d i v n : ℕ) → k ≡ i + d → d ≤ n → slot_vars (Some k) i v (suc n) ≡ insert_at d 0 (numbers v n)
vars_from k zero i v n e l =
    let t : (k == i) ≡ true = grind arith in
    ap (λ q. cond q (0 ∷ slot_vars (Some k) (suc i) v n) (v ∷ slot_vars (Some k) (suc i) (suc v) n)) t ∙ ap (λ z. 0 ∷ z) (vars_after k (suc i) v n (omega arith))
vars_from k (suc d) i v zero e l = absurd (omega arith)
vars_from k (suc d) i v (suc n) e l =
    let t : (k == i) ≡ false = grind arith in
    ap (λ q. cond q (0 ∷ slot_vars (Some k) (suc i) v (suc n)) (v ∷ slot_vars (Some k) (suc i) (suc v) (suc n))) t ∙ ap (λ z. v ∷ z) (vars_from k d (suc i) (suc v) n (omega arith) (omega arith))

-- the heir has variable 0, and the others have the new ones in order
pub vars_insert : (k n : ℕ) → k ≤ n → slot_vars (Some k) 0 1 (suc n) ≡ insert_at k 0 (numbers 1 n)
vars_insert k n l = vars_from k k 0 1 n (omega arith) l

pub map-insert_at : (f : ℕ → ℕ) (k h : ℕ) (hs : List ℕ) → map f (insert_at k h hs) ≡ insert_at k (f h) (map f hs)
map-insert_at f zero h hs = refl
map-insert_at f (suc k) h [] = refl
map-insert_at f (suc k) h (x ∷ hs) = ap (λ z. f x ∷ z) (map-insert_at f k h hs)
