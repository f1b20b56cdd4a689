-- A line is cut at every place exactly where each two neighbours of it are a pair.
use Rattle.std.proofs.Common.{ℕ, true, false, IsTrue, ◌↔◌, zero, suc, ◌≡◌, ◌+◌, ◌-◌, ◌<◌, ◌≤◌, inl, inr, List, ◌++◌, take, drop, length, get_or, Contains, refl, ap, sym, subst, ◌∙◌, arith}
use Rattle.std.proofs.Math.Decide.{ℕ_discrete}
use Rattle.std.proofs.Math.Seq.{drop-cons}
use Rattle.std.proofs.lemmas.List.{take-append-drop, get_or-take, get_or-drop, get_or_default, length-take, length-drop}
use Rattle.plan_model.specs.declared.networks.Pair.{Pair}
use Rattle.plan_model.specs.declared.schemas.MethodPlan.{MethodPlan}
use Rattle.plan_model.specs.Pairs.{pair, Pairs}
use Rattle.plan_model.specs.task_networks.Order.{Precedes, direct, through, IsLine, IsNext, IsCut}
use Rattle.plan_model.proofs.task_networks.Orders.{last_pair}
use Rattle.stack_encoding.specs.TotalOrder.{IsOneAfterAnother}

-- up to the n-th of the line
abbrev pub AreNeighbours : (ℕ → ℕ → Type 0) → List ℕ → ℕ → Type 0
AreNeighbours Pair line n = (k : ℕ) → suc k < n → Pair (get_or line k 0) (get_or line (suc k) 0)

module _ (Pair : ℕ → ℕ → Type 0) (line : List ℕ) where
  abbrev at : ℕ → ℕ
  at k = get_or line k 0

  pub neighbours_more : (n : ℕ) → 0 < n → AreNeighbours Pair line n → Pair (at (n - 1)) (at n) → AreNeighbours Pair line (n + 1)
  neighbours_more n some is last k l = elim (ℕ_discrete (suc k) n) [
    | yes e ↦ (let f : n - 1 ≡ k = omega (arith, e) in subst (λ j. Pair (at k) (at j)) (sym e) (subst (λ j. Pair (at j) (at n)) f last))
    | no other ↦ is k (omega (arith, other))
  ]

  -- a chain of neighbours
  chain : AreNeighbours Pair line (length line) → (a d : ℕ) → a + suc d < length line → Precedes Pair (at a) (at (a + suc d))
  chain is a zero l = let n : suc a ≡ a + 1 = omega arith in subst (λ k. Precedes Pair (at a) (at k)) n (direct (is a (omega arith)))
  chain is a (suc d) l =
      let n : suc (a + suc d) ≡ a + suc (suc d) = omega arith in
      subst (λ k. Precedes Pair (at a) (at k)) n (through (chain is a d (omega arith)) (is (a + suc d) (omega arith)))

  chain-to : AreNeighbours Pair line (length line) → (a b : ℕ) → a < b → b < length line → Precedes Pair (at a) (at b)
  chain-to is a b h l = let n : a + suc (b - suc a) ≡ b = omega (arith, h) in subst (λ k. Precedes Pair (at a) (at k)) n (chain is a (b - suc a) (omega (arith, h, l)))

  -- what is in the first part of the line, or in the rest
  taken-at : (k i : ℕ) → Contains (take k line) i → (a : ℕ) × (a < k) × (a < length line) × (at a ≡ i)
  taken-at k i (a, l, e) =
      let few = length-take k line in
      let h : a < k = omega (arith, few, l) in
      let m : a < length line = omega (arith, few, l) in
      (a, h, m, get_or_default line a 0 i m ∙ sym (get_or-take k line a i h) ∙ e)

  left-at : (k i : ℕ) → Contains (drop k line) i → (b : ℕ) × (k ≤ b) × (b < length line) × (at b ≡ i)
  left-at k i (b, l, e) =
      let few = length-drop k line in
      let m : k + b < length line = omega (arith, few, l) in
      (k + b, omega arith, m, get_or_default line (k + b) 0 i m ∙ sym (get_or-drop k line b i) ∙ e)

  at-taken : (k a : ℕ) → a < k → a < length line → Contains (take k line) (at a)
  at-taken k a h l = (a, omega (arith, length-take k line, h, l), get_or-take k line a (at a) h ∙ get_or_default line a (at a) 0 l)

  pub neighbours-cut : AreNeighbours Pair line (length line) → (k : ℕ) → k < length line → IsCut Pair line k
  neighbours-cut is k l i j c d =
      let (a, h, m, e) = taken-at k i c in
      let (b, h', m', e') = left-at k j d in
      subst (λ z. Precedes Pair z j) e (subst (λ z. Precedes Pair (at a) z) e' (chain-to is a b (omega (arith, h, h')) m'))

  -- a chain of two neighbours is their pair: what it goes through would be in the line before the first of them
  module _ (count : ℕ) (lined : IsLine Pair count line) where
    next : (k : ℕ) → k < length line → IsNext Pair count (take k line) (at k)
    next k l = lined.each (take k line) (drop (suc k) line) (at k) (sym (take-append-drop k line) ∙ ap (λ z. take k line ++ z) (drop-cons line k 0 l))

    no_chain : (a k : ℕ) → a < k → k < length line → Precedes Pair (at k) (at a) → ⊥
    no_chain a k h l c =
        let (b, h', m, e) = taken-at a (at k) ((next a (omega (arith, h, l))).ready.preceded (at k) c) in
        (next k l).ready.unlisted (subst (Contains (take k line)) e (at-taken k b (omega (arith, h, h')) m))

    pub cut-neighbours : ((k : ℕ) → k < length line → IsCut Pair line k) → AreNeighbours Pair line (length line)
    cut-neighbours cut k l = elim (last_pair (at k) (at (suc k)) (cut (suc k) l (at k) (at (suc k)) (at-taken (suc k) k (omega arith) (omega (arith, l))) here)) [
      | inl h ↦ h
      | inr x ↦ by x.0 x.1 x.2 (taken-at (suc k) x.0 ((next (suc k) l).ready.preceded x.0 (direct x.2)))
    ]
      where
        here : Contains (drop (suc k) line) (at (suc k))
        here = (0, omega (arith, length-drop (suc k) line, l), rw (drop-cons line (suc k) 0 l) refl)

        by : (x : ℕ) → Precedes Pair (at k) x → Pair x (at (suc k)) → (a : ℕ) × (a < suc k) × (a < length line) × (at a ≡ x) → Pair (at k) (at (suc k))
        by x c h (a, s, m, e) = elim (ℕ_discrete a k) [
          | yes same ↦ subst (λ z. Pair z (at (suc k))) (sym e ∙ ap at same) h
          | no other ↦ absurd (no_chain a k (omega (arith, s, other)) (omega (arith, l)) (subst (λ z. Precedes Pair (at k) z) (sym e) c))
        ]

-- what is known of a method's line up to place k
module _ (plan : MethodPlan) (lined : IsLine (Pairs plan.schema.pairs) (length plan.schema.children) plan.line) (line : List ℕ) (pairs : List Pair) (own : line ≡ plan.line) (own_pairs : pairs ≡ plan.schema.pairs) (k : ℕ) where
  pub is-one : AreNeighbours (Pairs pairs) line k → length line ≤ k → IsTrue true ↔ IsOneAfterAnother plan
  is-one is end =
      let all : AreNeighbours (Pairs pairs) line (length line) = λ j l. is j (omega (arith, l, end)) in
      let own_all = subst (λ xs. AreNeighbours (Pairs pairs) xs (length xs)) own all in
      (λ t. neighbours-cut (Pairs plan.schema.pairs) plan.line (subst (λ ps. AreNeighbours (Pairs ps) plan.line (length plan.line)) own_pairs own_all), λ one. refl)

  pub is-not-one : 0 < k → k < length line → (Contains pairs (pair (get_or line (k - 1) 0) (get_or line k 0)) → ⊥) → IsTrue false ↔ IsOneAfterAnother plan
  is-not-one some l none = (λ t. absurd cc, λ one. absurd (none (back (cut-neighbours (Pairs plan.schema.pairs) plan.line (length plan.schema.children) lined one))))
    where
      back : AreNeighbours (Pairs plan.schema.pairs) plan.line (length plan.line) → Contains pairs (pair (get_or line (k - 1) 0) (get_or line k 0))
      back are =
          let next : suc (k - 1) ≡ k = omega (arith, some) in
          let all = subst (λ xs. AreNeighbours (Pairs pairs) xs (length xs)) (sym own) (subst (λ ps. AreNeighbours (Pairs ps) plan.line (length plan.line)) (sym own_pairs) are) in
          subst (λ j. Contains pairs (pair (get_or line (k - 1) 0) (get_or line j 0))) next (all (k - 1) (omega (arith, some, l)))
