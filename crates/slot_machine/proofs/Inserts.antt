-- A slot put into a list of slots.
use Rattle.std.proofs.Common.{ℕ, zero, suc, ◌≡◌, ◌≤◌, ◌⊎◌, inl, inr, List, [], ◌∷◌, length, slice_index, refl, ap, sym, Contains, arith}
use Rattle.htn_base.specs.Different.{AreDifferent}
use Rattle.plan_model.proofs.task_networks.Lists.{head_or_tail, Contains-later, not-in_empty}
use Rattle.slot_machine.specs.Machine.{insert_at}

pub length-insert_at : (k h : ℕ) (hs : List ℕ) → length (insert_at k h hs) ≡ suc (length hs)
length-insert_at zero h hs = refl
length-insert_at (suc k) h [] = refl
length-insert_at (suc k) h (x ∷ hs) = ap suc (length-insert_at k h hs)

pub at-insert_at : (k h : ℕ) (hs : List ℕ) → k ≤ length hs → slice_index (insert_at k h hs) k ≡ h
at-insert_at zero h hs l = refl
at-insert_at (suc k) h [] l = absurd (omega arith)
at-insert_at (suc k) h (x ∷ hs) l = at-insert_at k h hs (omega arith)

pub insert_cases : (k h : ℕ) (hs : List ℕ) (x : ℕ) → Contains (insert_at k h hs) x → (h ≡ x) ⊎ Contains hs x
insert_cases zero h hs x c = head_or_tail h hs x c
insert_cases (suc k) h [] x c = head_or_tail h [] x c
insert_cases (suc k) h (y ∷ hs) x c = elim (head_or_tail y (insert_at k h hs) x c) [ inl e ↦ inr (0, omega arith, e) | inr d ↦ elim (insert_cases k h hs x d) [ inl e ↦ inl e | inr e ↦ inr (Contains-later y hs x e) ] ]

pub different-insert_at : (k h : ℕ) (hs : List ℕ) → AreDifferent hs → (Contains hs h → ⊥) → AreDifferent (insert_at k h hs)
different-insert_at zero h hs d n = (n, d)
different-insert_at (suc k) h [] d n = (not-in_empty h, tt)
different-insert_at (suc k) h (x ∷ hs) d n =
    (λ c. elim (insert_cases k h hs x c) [ inl e ↦ n (0, omega arith, sym e) | inr e ↦ d.0 e ], different-insert_at k h hs d.1 (λ c. n (Contains-later x hs h c)))

-- what is put in can be taken out again
pub insert_same : (k x y : ℕ) (xs ys : List ℕ) → k ≤ length xs → k ≤ length ys → insert_at k x xs ≡ insert_at k y ys → xs ≡ ys
insert_same zero x y xs ys a b e = cc
insert_same (suc k) x y [] ys a b e = absurd (omega arith)
insert_same (suc k) x y (z ∷ xs) [] a b e = absurd (omega arith)
insert_same (suc k) x y (z ∷ xs) (w ∷ ys) a b e = let f : z ≡ w = cc in let g : xs ≡ ys = insert_same k x y xs ys (omega arith) (omega arith) cc in cc
