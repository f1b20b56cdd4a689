-- Lines, copiers and guards of a compiled method, each from parts that compute.
use Rattle.std.proofs.Common.{ℕ, zero, suc, ◌≡◌, ◌≢◌, ◌+◌, ◌<◌, ◌≤◌, ◌↔◌, ◌⊎◌, ◌==◌, ◌&&◌, inl, inr, Bool, true, not, List, [], ◌∷◌, ◌++◌, filter, Option, Some, None, refl, ap, sym, subst, Contains, arith, eq-eqb}
use Rattle.std.specs.List.{list_any}
use Rattle.plan_model.specs.task_networks.Order.{Precedes, direct, through, IsLine, IsNext, IsMaximal}
use Rattle.plan_model.specs.task_networks.Spelling.{numbers, is_heir}
use Rattle.plan_model.proofs.task_networks.Lists.{not-in_empty, head_or_tail, Contains-later}
use Rattle.plan_model.proofs.task_networks.Numbers.{to_numbers, numbers_to}
use Rattle.plan_model.proofs.task_networks.Filters.{filter_to, to_filter}
use Rattle.plan_model.proofs.task_networks.PendingNodes.{both, not_to, to_not}
use Rattle.plan_model.proofs.task_networks.Tests.{any_to, to_any}
use Rattle.plan_model.specs.declared.networks.Pair.{Pair}
use Rattle.plan_model.proofs.task_networks.PendingNodes.{both_true}
use Rattle.plan_model.specs.Pairs.{pair, Pairs}

-- where a list of numbers is cut, those before are the lesser ones
cut_numbers : (k n : ℕ) (listed rest : List ℕ) (i : ℕ) → numbers k n ≡ listed ++ i ∷ rest
    → (k ≤ i) × (i < k + n) × ((j : ℕ) → Contains listed j → j < i) × ((j : ℕ) → k ≤ j → j < i → Contains listed j)
cut_numbers k zero [] rest i e = absurd cc
cut_numbers k zero (d ∷ listed) rest i e = absurd cc
cut_numbers k (suc n) [] rest i e = let f : k ≡ i = cc in (omega arith, omega arith, λ j c. absurd (not-in_empty j c), λ j a b. absurd (omega arith))
cut_numbers k (suc n) (d ∷ listed) rest i e =
    let f : k ≡ d = cc in
    let (low, high, less, there) = cut_numbers (suc k) n listed rest i cc in (
      omega arith,
      omega arith,
      λ j c. elim (head_or_tail d listed j c) [ inl g ↦ omega arith | inr t ↦ less j t ],
      λ j a b. elim (split k j a) [ inl g ↦ (0, omega arith, (let h : d ≡ j = omega arith in h)) | inr g ↦ Contains-later d listed j (there j g b) ],
    )
  where
    split : (k j : ℕ) → k ≤ j → (k ≡ j) ⊎ (suc k ≤ j)
    split zero zero a = inl refl
    split zero (suc j) a = inr (omega arith)
    split (suc k) zero a = absurd (omega arith)
    split (suc k) (suc j) a = elim (split k j (omega arith)) [ inl e ↦ inl (ap suc e) | inr g ↦ inr (omega arith) ]

pub climbs : {Pair : ℕ → ℕ → Type 0} → ((i j : ℕ) → Pair i j → i < j) → (i j : ℕ) → Precedes Pair i j → i < j
climbs up i j (direct p) = up i j p
climbs up i k (through {j = j} c p) = let a = climbs up i j c in let b = up j k p in omega arith

-- where each pair goes up, the line is the order of the numbers
pub line_up : {Pair : ℕ → ℕ → Type 0} (n : ℕ) → ((i j : ℕ) → Pair i j → i < j) → IsLine Pair n (numbers 0 n)
line_up {Pair = Pair} n up = record { whole = λ i l. to_numbers 0 n i (omega arith) (omega arith); each = λ listed rest i e. each listed rest i e }
  where
    each : (listed rest : List ℕ) (i : ℕ) → numbers 0 n ≡ listed ++ i ∷ rest → IsNext Pair n listed i
    each listed rest i e =
        let (low, high, less, there) = cut_numbers 0 n listed rest i e in
        record {
          ready = record { child = omega arith; unlisted = λ c. (let l = less i c in omega arith); preceded = λ j c. there j (omega arith) (climbs up j i c) };
          least = λ j r. at_least j i (λ l. r.unlisted (there j (omega arith) l));
        }
      where
        at_least : (j i : ℕ) → (j < i → ⊥) → i ≤ j
        at_least j zero f = omega arith
        at_least zero (suc i) f = absurd (f (omega arith))
        at_least (suc j) (suc i) f = let h = at_least j i (λ l. f (omega arith)) in omega arith

-- a child from which no pair leads
abbrev pub is_top : List Pair → ℕ → Bool
is_top pairs i = not (list_any (λ (p : Pair). p.first == i) pairs)

top_to : (pairs : List Pair) (i : ℕ) → is_top pairs i ≡ true → (j : ℕ) → Precedes (Pairs pairs) i j → ⊥
top_to pairs i e j (direct c) = not_to (list_any (λ (p : Pair). p.first == i) pairs) e (to_any (λ (p : Pair). p.first == i) pairs (pair i j) c (eq-eqb i i refl))
top_to pairs i e k (through {j = j} c p) = top_to pairs i e j c

to_top : (pairs : List Pair) (i : ℕ) → ((j : ℕ) → Precedes (Pairs pairs) i j → ⊥) → is_top pairs i ≡ true
to_top pairs i f = to_not (list_any (λ (p : Pair). p.first == i) pairs) (λ e. go (any_to (λ (p : Pair). p.first == i) pairs e))
  where
    go : (p : Pair) × Contains pairs p × ((p.first == i) ≡ true) → ⊥
    go (p, c, e) =
        let a : p.first ≡ i = grind (arith, e) in
        f p.then (direct (subst (Contains pairs) (λ k. record { first = a k; then = p.then }) c))

-- the copiers are those that are not the heir
pub copiers_by : (pairs : List Pair) (n : ℕ) (heir : Option ℕ) (copiers : List ℕ) → copiers ≡ filter (λ i. is_top pairs i && not (is_heir heir i)) (numbers 0 n)
    → (i : ℕ) → Contains copiers i ↔ (IsMaximal (Pairs pairs) n i × (heir ≢ Some i))
copiers_by pairs n heir copiers e i = (to, from)
  where
    test : ℕ → Bool
    test i = is_top pairs i && not (is_heir heir i)

    not_heir : (heir : Option ℕ) → not (is_heir heir i) ≡ true → heir ≢ Some i
    not_heir None e = λ f. absurd cc
    not_heir (Some k) e = λ f. not_to (k == i) e (eq-eqb k i cc)

    to_not_heir : (heir : Option ℕ) → heir ≢ Some i → not (is_heir heir i) ≡ true
    to_not_heir None f = refl
    to_not_heir (Some k) f = to_not (k == i) (λ e. f (ap Some (let a : k ≡ i = grind (arith, e) in a)))

    to : Contains copiers i → IsMaximal (Pairs pairs) n i × (heir ≢ Some i)
    to c =
        let (d, t) = filter_to test (numbers 0 n) i (subst (λ z. Contains z i) e c) in
        let h = both (is_top pairs i) (not (is_heir heir i)) t in
        let b = (numbers_to 0 n i d).1 in
        ((omega arith, top_to pairs i h.0), not_heir heir h.1)

    from : IsMaximal (Pairs pairs) n i × (heir ≢ Some i) → Contains copiers i
    from (m, h) =
        let l = m.0 in
        subst (λ z. Contains z i) (sym e) (to_filter test (numbers 0 n) i (to_numbers 0 n i (omega arith) (omega arith)) (both_true (is_top pairs i) (not (is_heir heir i)) (to_top pairs i m.1) (to_not_heir heir h)))
