-- The numbers of a list in order that are as a predicate says.
use Rattle.std.proofs.Common.{ℕ, zero, suc, ◌≡◌, ◌≢◌, ◌+◌, ◌<◌, ◌≤◌, ◌↔◌, inl, inr, List, [], ◌∷◌, slice_index, refl, ap, subst, arith, Contains}
use Rattle.std.specs.List.Sorted.{IsStrictlyIncreasing}
use Rattle.std.proofs.lemmas.Bool.Decides.{eqb_tells}
use Rattle.plan_model.specs.task_networks.Spelling.{numbers}
use Rattle.plan_model.proofs.task_networks.Lists.{head_or_tail, not-in_empty, Contains-later, Contains-here}
use Rattle.plan_model.specs.plan_meaning.Compilation.{Keeps}

increasing_rest : (m : ℕ) (ms : List ℕ) → IsStrictlyIncreasing (m ∷ ms) → IsStrictlyIncreasing ms
increasing_rest m ms inc k l =
    let e : suc k + 1 ≡ suc (k + 1) = omega arith in
    subst (λ j. slice_index (m ∷ ms) (suc k) < slice_index (m ∷ ms) j) e (inc (suc k) (omega arith))

above_first : (m : ℕ) (ms : List ℕ) → IsStrictlyIncreasing (m ∷ ms) → (x : ℕ) → Contains ms x → m < x
above_first m [] inc x c = absurd (not-in_empty x c)
above_first m (y ∷ ms) inc x c =
    let h : m < y = inc 0 (omega arith) in
    elim (head_or_tail y ms x c) [
      | inl e ↦ subst (λ z. m < z) e h
      | inr d ↦ let g : y < x = above_first y ms (increasing_rest m (y ∷ ms) inc) x d in omega arith
    ]

-- the step of what follows, where the first of the list is the next number, and where it is a later one
module _ (P : ℕ → Type 0) (i n m : ℕ) (ms : List ℕ) (inc : IsStrictlyIncreasing (m ∷ ms)) (to : (x : ℕ) → Contains (m ∷ ms) x → P x × (i ≤ x))
    (from : (x : ℕ) → P x → i ≤ x → Contains (m ∷ ms) x) (below : (x : ℕ) → P x → x < i + suc n)
    (again : (ks : List ℕ) → IsStrictlyIncreasing ks → ((x : ℕ) → Contains ks x → P x × (suc i ≤ x)) → ((x : ℕ) → P x → suc i ≤ x → Contains ks x) → ((x : ℕ) → P x → x < suc i + n) → Keeps P (numbers (suc i) n) ks) where
  beyond : (x : ℕ) → P x → x < suc i + n
  beyond x p = let h = below x p in omega arith

  later : (x : ℕ) → Contains ms x → m < x
  later x c = above_first m ms inc x c

  keeps_first : m ≡ i → Keeps P (numbers i (suc n)) (m ∷ ms)
  keeps_first e = inl (
    subst P e (to m (Contains-here m ms)).0,
    ms,
    ap (λ z. z ∷ ms) e,
    again ms (increasing_rest m ms inc)
        (λ x c. ((to x (Contains-later m ms x c)).0, let h = later x c in omega arith))
        (λ x p l. elim (head_or_tail m ms x (from x p (omega arith))) [ inl g ↦ absurd (omega arith) | inr d ↦ d ])
        beyond,
  )

  keeps_later : m ≢ i → Keeps P (numbers i (suc n)) (m ∷ ms)
  keeps_later ne =
      let g : i ≤ m = (to m (Contains-here m ms)).1 in
      let k : suc i ≤ m = omega (arith, ne) in
      inr (
        λ p. elim (head_or_tail m ms i (from i p (omega arith))) [ inl e ↦ ne e | inr d ↦ (let h = later i d in absurd (omega arith)) ],
        again (m ∷ ms) inc
            (λ x c. ((to x c).0, elim (head_or_tail m ms x c) [ inl e ↦ subst (λ z. suc i ≤ z) e k | inr d ↦ (let h = later x d in omega arith) ]))
            (λ x p l. from x p (omega arith))
            beyond,
      )

keeps_from : (P : ℕ → Type 0) (i n : ℕ) (ms : List ℕ) → IsStrictlyIncreasing ms → ((x : ℕ) → Contains ms x → P x × (i ≤ x))
    → ((x : ℕ) → P x → i ≤ x → Contains ms x) → ((x : ℕ) → P x → x < i + n) → Keeps P (numbers i n) ms
keeps_from P i zero [] inc to from below = refl
keeps_from P i zero (m ∷ ms) inc to from below =
    let t = to m (Contains-here m ms) in
    let g : i ≤ m = t.1 in
    let h : m < i + 0 = below m t.0 in
    absurd (omega arith)
keeps_from P i (suc n) [] inc to from below =
    inr (
      λ p. not-in_empty i (from i p (omega arith)),
      keeps_from P (suc i) n [] inc (λ x c. absurd (not-in_empty x c)) (λ x p l. from x p (omega arith)) (λ x p. let h = below x p in omega arith),
    )
keeps_from P i (suc n) (m ∷ ms) inc to from below = elim (eqb_tells m i) [
  | inl t ↦ keeps_first P i n m ms inc to from below (λ ks. keeps_from P (suc i) n ks) t.1
  | inr t ↦ keeps_later P i n m ms inc to from below (λ ks. keeps_from P (suc i) n ks) t.1
]

pub keeps_members : (P : ℕ → Type 0) (n : ℕ) (ms : List ℕ) → IsStrictlyIncreasing ms → ((x : ℕ) → Contains ms x ↔ P x) → ((x : ℕ) → P x → x < n) → Keeps P (numbers 0 n) ms
keeps_members P n ms inc has below =
    keeps_from P 0 n ms inc (λ x c. ((has x).0 c, omega arith)) (λ x p l. (has x).1 p) (λ x p. let h = below x p in omega arith)
