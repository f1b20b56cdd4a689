-- The chain of a network: each subtask before the next.
use Rattle.std.proofs.Common.{ℕ, zero, suc, ◌≡◌, ◌+◌, ◌-◌, ◌<◌, ◌≤◌, inl, inr, [], ◌∷◌, ◌++◌, ap, sym, ◌∙◌, Contains, arith}
use Rattle.plan_model.proofs.task_networks.Lists.{Contains-later, not-in_empty, head_or_tail}
use Rattle.plan_model.specs.declared.networks.Pair.{Pair}
use Rattle.plan_model.specs.Pairs.{pair}
use Rattle.std.proofs.lemmas.Bool.{cases_lt}
use Rattle.plan_texts.specs.Networks.{chain}

-- the pairs of a chain of n subtasks from k on
pub record IsStep (k n i j : ℕ) : Type 0 where
  pub from : k ≤ i
  pub next : j ≡ suc i
  pub within : j < k + n

pub step_in_chain : (k n i j : ℕ) → Contains (chain k n) (pair i j) → IsStep k n i j
step_in_chain k zero i j h = absurd (not-in_empty (pair i j) h)
step_in_chain k (suc zero) i j h = absurd (not-in_empty (pair i j) h)
step_in_chain k (suc (suc n)) i j h = elim (head_or_tail (pair k (suc k)) (chain (suc k) (suc n)) (pair i j) h) [
  | inl e ↦ let a : k ≡ i = ap (λ (p : Pair). p.first) e in let b : suc k ≡ j = ap (λ (p : Pair). p.then) e in record { from = omega arith; next = omega arith; within = omega arith }
  | inr r ↦ let s = step_in_chain (suc k) (suc n) i j r in record { from = omega arith; next = s.next; within = omega arith }
]

pub chain_has_step : (k n i j : ℕ) → IsStep k n i j → Contains (chain k n) (pair i j)
chain_has_step k zero i j s = absurd (omega arith)
chain_has_step k (suc zero) i j s = absurd (omega arith)
chain_has_step k (suc (suc n)) i j s = elim (cases_lt k i) [
  | inl l ↦ Contains-later (pair k (suc k)) (chain (suc k) (suc n)) (pair i j) (chain_has_step (suc k) (suc n) i j (record { from = omega arith; next = s.next; within = omega arith }))
  | inr g ↦ let e : k ≡ i = omega arith in (0, omega arith, λ t. pair (e t) ((ap suc e ∙ sym s.next) t))
]

pub chain-push : (k n : ℕ) → chain k (suc (suc n)) ≡ chain k (suc n) ++ pair (k + n) (suc (k + n)) ∷ []
chain-push k zero = let e : k ≡ k + 0 = omega arith in ap (λ m. pair m (suc m) ∷ []) e
chain-push k (suc n) = let e : suc k + n ≡ k + suc n = omega arith in
    ap (λ ps. pair k (suc k) ∷ ps) (chain-push (suc k) n) ∙ ap (λ m. pair k (suc k) ∷ (chain (suc k) (suc n) ++ pair m (suc m) ∷ [])) e

pub chain_more : (k : ℕ) → chain 0 (k + 1 + 1) ≡ chain 0 (k + 1) ++ pair k (k + 1) ∷ []
chain_more k =
    let a : k + 1 + 1 ≡ suc (suc k) = omega arith in
    let b : k + 1 ≡ suc k = omega arith in
    let z : 0 + k ≡ k = omega arith in
    ap (chain 0) a ∙ chain-push 0 k ∙ ap (λ m. chain 0 (suc k) ++ pair m (suc m) ∷ []) z ∙ ap (λ m. chain 0 m ++ pair k m ∷ []) (sym b)

-- the steps are one fewer than the subtasks
pub chain_all : (n k : ℕ) → k ≡ n - 1 → chain 0 (k + 1) ≡ chain 0 n
chain_all zero k e = let a : k + 1 ≡ 1 = omega arith in ap (chain 0) a
chain_all (suc n) k e = let a : k + 1 ≡ suc n = omega arith in ap (chain 0) a
