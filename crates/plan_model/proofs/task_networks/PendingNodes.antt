-- What is pending, as a list and as a fact of each node.
use Rattle.std.proofs.Common.{ℕ, ◌≡◌, ◌≤◌, ◌⊎◌, ◌↔◌, inl, inr, List, [], ◌∷◌, ◌++◌, length, Bool, true, false, not, ◌&&◌, ◌||◌, ◌==◌, Some, refl, ap, sym, subst, ◌∙◌, Contains, arith}
use Rattle.std.proofs.Common.{eq-eqb}
use Rattle.plan_model.specs.task_networks.Net.{Net}
use Rattle.plan_model.specs.task_networks.Tree.{Address, at, Tree}
use Rattle.plan_model.specs.task_networks.Schedule.{IsBegun}
use Rattle.htn_base.specs.Different.{AreDifferent}
use Rattle.plan_model.specs.task_networks.Pending.{IsPending, IsWithin}
use Rattle.plan_model.specs.task_networks.Listed.{same_address, is_listed}
use Rattle.plan_model.specs.task_networks.Preorder.{nodes_at}
use Rattle.plan_model.specs.task_networks.PendingComputed.{pending, is_pending}
use Rattle.plan_model.proofs.task_networks.Different.{no_more}
use Rattle.plan_model.proofs.task_networks.Filters.{filter_to, to_filter, different-filter}
use Rattle.plan_model.proofs.task_networks.Lists.{Contains-later, not-in_empty, head_or_tail}
use Rattle.plan_model.proofs.task_networks.Nodes.{nodes, lists_address, different_nodes}

pub both : (a b : Bool) → (a && b) ≡ true → (a ≡ true) × (b ≡ true)
both true b e = (refl, e)
both false b e = absurd cc

pub same_to : (p q : Address) → same_address p q ≡ true → p ≡ q
same_to [] [] e = refl
same_to [] (j ∷ q) e = absurd cc
same_to (i ∷ p) [] e = absurd cc
same_to (i ∷ p) (j ∷ q) e = let h = both (i == j) (same_address p q) e in let f : i ≡ j = grind (arith, h.0) in let g = same_to p q h.1 in cc

pub address_same_itself : (p : Address) → same_address p p ≡ true
address_same_itself [] = refl
address_same_itself (i ∷ p) = let e : (i == i) ≡ true = eq-eqb i i refl in ap (λ b. b && same_address p p) e ∙ address_same_itself p

pub both_true : (a b : Bool) → a ≡ true → b ≡ true → (a && b) ≡ true
both_true true b e f = f
both_true false b e f = absurd cc

pub second_true : (a b : Bool) → b ≡ true → (a || b) ≡ true
second_true true b f = refl
second_true false b f = f

pub either : (a b : Bool) → (a || b) ≡ true → (a ≡ true) ⊎ (b ≡ true)
either true b e = inl refl
either false b e = inr e

pub among_to : (ps : List Address) (p : Address) → is_listed ps p ≡ true → Contains ps p
among_to [] p e = absurd cc
among_to (q ∷ ps) p e = elim (either (same_address p q) (is_listed ps p) e) [ inl x ↦ (0, omega arith, sym (same_to p q x)) | inr x ↦ Contains-later q ps p (among_to ps p x) ]

pub to_among : (ps : List Address) (p : Address) → Contains ps p → is_listed ps p ≡ true
to_among [] p c = absurd (not-in_empty p c)
to_among (q ∷ ps) p c = elim (head_or_tail q ps p c) [
  | inl e ↦ ap (λ b. b || is_listed ps p) (subst (λ z. same_address z q ≡ true) e (address_same_itself q))
  | inr d ↦ second_true (same_address p q) (is_listed ps p) (to_among ps p d)
]

pub not_to : (b : Bool) → not b ≡ true → b ≡ true → ⊥
not_to true e f = cc
not_to false e f = cc

pub to_not : (b : Bool) → (b ≡ true → ⊥) → not b ≡ true
to_not true n = absurd (n refl)
to_not false n = refl

pub pending_to : (taken : List Address) (p : Address) → is_pending taken p ≡ true → IsBegun taken p × (Contains taken p → ⊥)
pending_to taken [] e = (tt, λ c. not_to (is_listed taken []) e (to_among taken [] c))
pending_to taken (i ∷ p) e = let h = both (is_listed taken p) (not (is_listed taken (i ∷ p))) e in (among_to taken p h.0, λ c. not_to (is_listed taken (i ∷ p)) h.1 (to_among taken (i ∷ p) c))

pub to_pending : (taken : List Address) (p : Address) → IsBegun taken p → (Contains taken p → ⊥) → is_pending taken p ≡ true
to_pending taken [] b n = to_not (is_listed taken []) (λ e. n (among_to taken [] e))
to_pending taken (i ∷ p) b n = ap (λ z. z && not (is_listed taken (i ∷ p))) (to_among taken p b) ∙ to_not (is_listed taken (i ∷ p)) (λ e. n (among_to taken (i ∷ p) e))

module _ (N : Net) where
  pub pending_iff : (tree : Tree N) (taken : List Address) (p : Address) → Contains (pending N tree taken) p ↔ IsPending N tree taken p
  pending_iff tree taken p = (
    λ c. (let h = filter_to (is_pending taken) (nodes_at N [] tree) p c in let k = pending_to taken p h.1 in record { address = nodes N tree tree [] p (let x : at N tree [] ≡ Some tree = refl in x) h.0; begun = k.0; left = k.1 }),
    λ d. to_filter (is_pending taken) (nodes_at N [] tree) p (lists_address N tree p d.address) (to_pending taken p d.begun d.left),
  )

  pub pending_different : (tree : Tree N) (taken : List Address) → AreDifferent (pending N tree taken)
  pending_different tree taken = different-filter (is_pending taken) (nodes_at N [] tree) (different_nodes N tree [])

  -- the two ways to say that at most b are pending
  pub within_iff : (b : ℕ) (tree : Tree N) (order : List Address) → IsWithin N b tree order ↔ ((taken rest : List Address) → order ≡ taken ++ rest → length (pending N tree taken) ≤ b)
  within_iff b tree order = (
    λ h taken rest e. h taken rest (pending N tree taken) e (record { different = pending_different tree taken; pending = λ p c. (pending_iff tree taken p).0 c }),
    λ h taken rest nodes e f. (let x = no_more nodes (pending N tree taken) f.different (λ p c. (pending_iff tree taken p).1 (f.pending p c)) in let y = h taken rest e in omega arith),
  )
