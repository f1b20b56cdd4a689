-- A line that goes as far as it can has each child once exactly where no child precedes itself.
use Rattle.std.proofs.Common.{ℕ, zero, suc, ◌≡◌, ◌<◌, ◌⊎◌, inl, inr, List, [], ◌∷◌, ◌++◌, length, Contains, refl, sym, subst, ap, ◌∙◌, arith, append_assoc, ◌≤◌}
use Rattle.std.proofs.lemmas.Bool.{cases_eq}
use Rattle.plan_model.specs.task_networks.Order.{Precedes, direct, through, IsAcyclic, ArePairsOf, IsReady, IsNext, IsMaximal}
use Rattle.htn_base.specs.Different.{AreDifferent}
use Rattle.plan_model.specs.task_networks.Spelling.{numbers}
use Rattle.plan_model.proofs.task_networks.Lists.{by_push, cut_at, head_or_tail, not-in_empty, Contains-later, Contains-here}
use Rattle.plan_model.proofs.task_networks.Different.{different_append, no_more}
use Rattle.plan_model.proofs.task_networks.Numbers.{length-numbers, numbers_to, to_numbers, different-numbers}
use Rattle.plan_model.proofs.task_networks.Orders.{precedes_then, precedes_within, last_pair, maximal_above}
use Rattle.plan_model.specs.net_order.Line.{IsGreedy}
use Rattle.plan_model.proofs.net_order.Lines.{all_before}

pub in_line : (line : List ℕ) (i : ℕ) → Contains line i ⊎ (Contains line i → ⊥)
in_line [] i = inr (not-in_empty i)
in_line (x ∷ line) i = go (cases_eq x i) (in_line line i)
  where
    go : ((x ≡ i) ⊎ (x ≡ i → ⊥)) → (Contains line i ⊎ (Contains line i → ⊥)) → Contains (x ∷ line) i ⊎ (Contains (x ∷ line) i → ⊥)
    go (inl e) c = inl (subst (Contains (x ∷ line)) e (Contains-here x line))
    go (inr d) (inl c) = inl (Contains-later x line i c)
    go (inr d) (inr f) = inr (λ c. elim (head_or_tail x line i c) [ inl e ↦ d e | inr e ↦ f e ])

-- a number below n that is so, or none
pub search_below : (P : ℕ → Type 0) → ((j : ℕ) → P j ⊎ (P j → ⊥)) → (n : ℕ) → ((j : ℕ) × (j < n) × P j) ⊎ ((j : ℕ) → j < n → P j → ⊥)
search_below P decide zero = inr (λ j l p. absurd (omega arith))
search_below P decide (suc n) = go (decide n) (search_below P decide n)
  where
    up_to : (P n → ⊥) → ((j : ℕ) → j < n → P j → ⊥) → (j : ℕ) → j < suc n → P j → ⊥
    up_to f g j l p = elim (cases_eq j n) [ inl e ↦ f (subst P e p) | inr d ↦ g j (omega arith) p ]

    go : (P n ⊎ (P n → ⊥)) → (((j : ℕ) × (j < n) × P j) ⊎ ((j : ℕ) → j < n → P j → ⊥)) → ((j : ℕ) × (j < suc n) × P j) ⊎ ((j : ℕ) → j < suc n → P j → ⊥)
    go (inl p) r = inl (n, omega arith, p)
    go (inr f) (inl x) = inl (x.0, (let h = x.1 in omega arith), x.2)
    go (inr f) (inr g) = inr (up_to f g)

module _ (Pair : ℕ → ℕ → Type 0) (count : ℕ) (line : List ℕ) (each : (taken rest : List ℕ) (i : ℕ) → line ≡ taken ++ i ∷ rest → IsNext Pair count taken i) where
  pub child_of : (i : ℕ) → Contains line i → i < count
  child_of i c = let (taken, rest, e) = cut_at line i c in (each taken rest i e).ready.child

  pub different : AreDifferent line
  different = by_push (λ xs. ((taken rest : List ℕ) (i : ℕ) → xs ≡ taken ++ i ∷ rest → IsNext Pair count taken i) → AreDifferent xs) (λ f. tt) step line each
    where
      step : (xs : List ℕ) (x : ℕ) → (((taken rest : List ℕ) (i : ℕ) → xs ≡ taken ++ i ∷ rest → IsNext Pair count taken i) → AreDifferent xs)
          → ((taken rest : List ℕ) (i : ℕ) → xs ++ x ∷ [] ≡ taken ++ i ∷ rest → IsNext Pair count taken i) → AreDifferent (xs ++ x ∷ [])
      step xs x f next = different_append xs (x ∷ []) (f (λ taken rest i e. next taken (rest ++ x ∷ []) i (ap (λ ys. ys ++ x ∷ []) e ∙ append_assoc taken (i ∷ rest) (x ∷ [])))) (not-in_empty x, tt)
          (λ y c d. elim (head_or_tail x [] y d) [ inl e ↦ (next xs [] x refl).ready.unlisted (subst (Contains xs) (sym e) c) | inr e ↦ not-in_empty y e ])

  pub at_most : length line ≤ count
  at_most =
      let a = no_more line (numbers 0 count) different (λ j c. to_numbers 0 count j (omega arith) (let b = child_of j c in omega arith)) in
      let m = length-numbers 0 count in
      omega arith

  -- a line with as many children as there are has each
  pub full : count ≤ length line → (i : ℕ) → i < count → Contains line i
  full e i l = elim (in_line line i) [ inl c ↦ c | inr f ↦ absurd (none f) ]
    where
      below : (j : ℕ) → Contains (i ∷ line) j → j < count
      below j c = elim (head_or_tail i line j c) [ inl g ↦ subst (λ x. x < count) g l | inr g ↦ child_of j g ]

      none : (Contains line i → ⊥) → ⊥
      none f =
          let n = no_more (i ∷ line) (numbers 0 count) (f, different) (λ j c. to_numbers 0 count j (omega arith) (let b = below j c in omega arith)) in
          let m = length-numbers 0 count in
          omega arith

  module _ (whole : (i : ℕ) → i < count → Contains line i) where
    pub length_line : length line ≡ count
    length_line =
        let a = at_most in
        let b = no_more (numbers 0 count) line (different-numbers 0 count) (λ j c. whole j (let b = (numbers_to 0 count j c).1 in omega arith)) in
        let m = length-numbers 0 count in
        omega arith

    -- where each child is listed, none precedes itself
    pub line_acyclic : ArePairsOf Pair count → IsAcyclic Pair
    line_acyclic within i c =
        let (taken, rest, e) = cut_at line i (whole i (precedes_within count i i within c).0) in
        let r = (each taken rest i e).ready in
        r.unlisted (r.preceded i c)

module _ (Pair : ℕ → ℕ → Type 0) (count : ℕ) (decide : (i j : ℕ) → Pair i j ⊎ (Pair i j → ⊥)) (within : ArePairsOf Pair count) (line : List ℕ) (greedy : IsGreedy Pair count line) where
  -- the walk down from an unlisted child goes by unlisted ones
  abbrev Down : ℕ → ℕ → Type 0
  Down i j = Pair j i × (Contains line i → ⊥) × (Contains line j → ⊥)

  up : (i j : ℕ) → Precedes Down i j → Precedes Pair j i
  up i j (direct h) = direct h.0
  up i j (through {j = k} c h) = precedes_then {Pair = Pair} j k i (direct h.0) (up i k c)

  next : (i : ℕ) → ((j : ℕ) × Down i j) ⊎ ((j : ℕ) → Down i j → ⊥)
  next i = go (in_line line i) (search_below Free free count)
    where
      Free : ℕ → Type 0
      Free j = Pair j i × (Contains line j → ⊥)

      free : (j : ℕ) → Free j ⊎ (Free j → ⊥)
      free j = elim (in_line line j) [ inl c ↦ inr (λ x. x.1 c) | inr f ↦ elim (decide j i) [ inl p ↦ inl (p, f) | inr n ↦ inr (λ x. n x.0) ] ]

      go : (Contains line i ⊎ (Contains line i → ⊥)) → (((j : ℕ) × (j < count) × Free j) ⊎ ((j : ℕ) → j < count → Free j → ⊥)) → ((j : ℕ) × Down i j) ⊎ ((j : ℕ) → Down i j → ⊥)
      go (inl c) r = inr (λ j x. x.1 c)
      go (inr f) (inl x) = inl (x.0, (x.2.0, f, x.2.1))
      go (inr f) (inr g) = inr (λ j x. g j (within j i x.0).0 (x.0, x.2))

  module _ (acyclic : IsAcyclic Pair) where
    -- a child without unlisted predecessors is ready
    lowest : (i : ℕ) → (Contains line i → ⊥) → IsMaximal Down count i → IsReady Pair count line i
    lowest i f m = record {
      child = m.0;
      unlisted = f;
      preceded = all_before Pair count line greedy.each i (λ j p. elim (in_line line j) [ inl c ↦ c | inr g ↦ absurd (m.1 j (direct (p, f, g))) ]);
    }

    some_ready : (i : ℕ) → i < count → (Contains line i → ⊥) → (j : ℕ) × IsReady Pair count line j
    some_ready i l f = elim (maximal_above count Down (λ a b h. (let w = within b a h.0 in (w.1, w.0))) next (λ a c. acyclic a (up a a c)) i l) [
      | inl m ↦ (i, lowest i f m)
      | inr x ↦ (x.0, lowest x.0 (unlisted x.0 x.1) x.2)
    ]
      where
        unlisted : (j : ℕ) → Precedes Down i j → Contains line j → ⊥
        unlisted j c = elim (last_pair i j c) [ inl h ↦ h.2 | inr x ↦ x.2.2 ]

    pub whole : (i : ℕ) → i < count → Contains line i
    whole i l = elim (in_line line i) [
      | inl c ↦ c
      | inr f ↦ elim greedy.ended [ inl e ↦ full Pair count line greedy.each (omega arith) i l | inr g ↦ absurd (let r = some_ready i l f in g r.0 r.1) ]
    ]
