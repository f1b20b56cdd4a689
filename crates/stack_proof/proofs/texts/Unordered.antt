-- All methods are totally ordered, or one is the first that is not.
use Rattle.std.proofs.Common.{ℕ, zero, suc, ◌≡◌, ◌<◌, ◌⊎◌, inl, inr, List, [], ◌∷◌, length, slice_get, Some, take, drop, refl, subst, Contains, arith}
use Rattle.plan_model.specs.declared.schemas.MethodPlan.{MethodPlan}
use Rattle.plan_model.specs.declared.values.Compiled.{Compiled}
use Rattle.plan_model.specs.Pairs.{Pairs}
use Rattle.plan_model.specs.task_networks.Order.{Precedes, IsCut}
use Rattle.plan_model.specs.task_networks.Spelling.{numbers}
use Rattle.plan_model.proofs.net_order.Closures.{decide_chain}
use Rattle.plan_model.proofs.task_networks.Lists.{not-in_empty, Contains-here, Contains-later, head_or_tail}
use Rattle.plan_model.proofs.task_networks.Numbers.{numbers_to, to_numbers}
use Rattle.schedules.proofs.ruled.LowestRule.{by_order}
use Rattle.slot_encoding.proofs.places.ListPlaces.{contains_get}
use Rattle.stack_encoding.specs.TotalOrder.{IsOneAfterAnother, IsFirstUnordered}
use Rattle.stack_proof.specs.OrderedAlike.{IsOrderedOrHasOneFirst}

-- it is decided
abbrev Decided : Type 0 → Type 0
Decided P = P ⊎ (P → ⊥)

-- of all items of a list
abbrev Every : (ℕ → Type 0) → List ℕ → Type 0
Every P xs = (x : ℕ) → Contains xs x → P x

every_decided : (P : ℕ → Type 0) → ((x : ℕ) → Decided (P x)) → (xs : List ℕ) → Decided (Every P xs)
every_decided P decide [] = inl (λ x c. absurd (not-in_empty x c))
every_decided P decide (x ∷ xs) = go (decide x) (every_decided P decide xs)
  where
    go : Decided (P x) → Decided (Every P xs) → Decided (Every P (x ∷ xs))
    go (inr n) d = inr (λ all. n (all x (Contains-here x xs)))
    go (inl h) (inr n) = inr (λ all. n (λ y c. all y (Contains-later x xs y c)))
    go (inl h) (inl k) = inl (λ y c. elim (head_or_tail x xs y c) [ inl e ↦ subst P e h | inr d ↦ k y d ])

module _ (plan : MethodPlan) where
  abbrev Before : ℕ → ℕ → Type 0
  Before = Precedes (Pairs plan.schema.pairs)

  abbrev Cut : ℕ → Type 0
  Cut k = IsCut (Pairs plan.schema.pairs) plan.line k

  cut_decided : (k : ℕ) → Decided (Cut k)
  cut_decided k = elim (every_decided (λ i. Every (Before i) (drop k plan.line)) (λ i. every_decided (Before i) (decide_chain plan.schema.pairs i) (drop k plan.line)) (take k plan.line)) [
    | inl h ↦ inl (λ i j c d. h i c j d)
    | inr n ↦ inr (λ h. n (λ i c j d. h i j c d))
  ]

  one_after_decided : Decided (IsOneAfterAnother plan)
  one_after_decided = elim (every_decided Cut cut_decided (numbers 0 (length plan.line))) [
    | inl h ↦ inl (λ k l. h k (to_numbers 0 (length plan.line) k (omega arith) (omega arith)))
    | inr n ↦ inr (λ h. n (λ k c. h k (let m = (numbers_to 0 (length plan.line) k c).1 in omega arith)))
  ]

-- the first of a list that is not ordered, by its place
record IsFirst (plans : List MethodPlan) (m : ℕ) : Type 0 where
  plan : MethodPlan
  is : slice_get plans m ≡ Some plan
  unordered : IsOneAfterAnother plan → ⊥
  first : (k : ℕ) (other : MethodPlan) → k < m → slice_get plans k ≡ Some other → IsOneAfterAnother other

abbrev AreAll : List MethodPlan → Type 0
AreAll plans = (k : ℕ) (plan : MethodPlan) → slice_get plans k ≡ Some plan → IsOneAfterAnother plan

all_or_first : (plans : List MethodPlan) → AreAll plans ⊎ ((m : ℕ) × IsFirst plans m)
all_or_first [] = inl (λ k plan e. absurd cc)
all_or_first (p ∷ plans) = go (one_after_decided p) (all_or_first plans)
  where
    all : IsOneAfterAnother p → AreAll plans → AreAll (p ∷ plans)
    all h f zero plan e = let g : p ≡ plan = cc in subst IsOneAfterAnother g h
    all h f (suc k) plan e = f k plan e

    before : IsOneAfterAnother p → (m : ℕ) → IsFirst plans m → (k : ℕ) (other : MethodPlan) → k < suc m → slice_get (p ∷ plans) k ≡ Some other → IsOneAfterAnother other
    before h m f zero other l e = let g : p ≡ other = cc in subst IsOneAfterAnother g h
    before h m f (suc k) other l e = f.first k other (omega arith) e

    go : (IsOneAfterAnother p ⊎ (IsOneAfterAnother p → ⊥)) → AreAll plans ⊎ ((m : ℕ) × IsFirst plans m) → AreAll (p ∷ plans) ⊎ ((m : ℕ) × IsFirst (p ∷ plans) m)
    go (inr n) d = inr (0, record { plan = p; is = refl; unordered = n; first = λ k other l e. absurd (omega arith) })
    go (inl h) (inl f) = inl (all h f)
    go (inl h) (inr (m, f)) = inr (suc m, record { plan = f.plan; is = f.is; unordered = f.unordered; first = before h m f })

module _ (c : Compiled) where
  not_before : (m k : ℕ) → IsFirstUnordered c m → IsFirstUnordered c k → m < k → ⊥
  not_before m k a b l = a.unordered (b.first m a.plan l a.is)

  pub ordered_or_one_first : IsOrderedOrHasOneFirst c
  ordered_or_one_first = elim (all_or_first c.methods) [
    | inl h ↦ inl (λ plan d. (let (k, e) = contains_get c.methods plan d in h k plan e))
    | inr (m, f) ↦ (
        let first : IsFirstUnordered c m = record { plan = f.plan; is = f.is; unordered = f.unordered; first = f.first } in
        inr (m, first, λ k other. elim (by_order k m) [ inl l ↦ absurd (not_before k m other first l) | inr (inl e) ↦ e | inr (inr l) ↦ absurd (not_before m k first other l) ]))
  ]
