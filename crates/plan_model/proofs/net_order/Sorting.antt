-- From the sets of the pairs to the closure and the line.
use Rattle.std.proofs.Common.{ℕ, ◌≡◌, ◌<◌, ◌≤◌, ◌⊎◌, ◌↔◌, inl, inr, List, length, Bool, sym, subst, arith}
use Rattle.std.proofs.lemmas.Bool.{cases_Bool, both_ways}
use Rattle.plan_model.specs.declared.networks.Pair.{Pair}
use Rattle.plan_model.specs.task_networks.Order.{Precedes, direct, IsAcyclic, ArePairsOf, IsLine}
use Rattle.plan_model.specs.net_order.Marks.{marked, Marked, IsSquare}
use Rattle.plan_model.specs.net_order.Line.{IsGreedy, IsClosed}
use Rattle.plan_model.specs.Pairs.{Pairs}
use Rattle.plan_model.specs.net_order.Closure.{IsClosure, IsDirect}
use Rattle.plan_model.proofs.net_order.Chains.{chain_map}
use Rattle.plan_model.proofs.net_order.Meanings.{marked_within, next_like}
use Rattle.plan_model.proofs.net_order.Whole as whole

-- a cycle of the sets is one of the pairs
pub acyclic_sets : (count : ℕ) (pairs : List Pair) (before : List (List Bool)) → IsDirect count pairs before → IsAcyclic (Marked before) ↔ IsAcyclic (Pairs pairs)
acyclic_sets count pairs before h = (
  (λ f i c. f i (chain_map {P = Pairs pairs} {Q = Marked before} (λ a b d. direct ((h.marks a b).1 d)) i i c)),
  λ f i c. f i (chain_map {P = Marked before} {Q = Pairs pairs} (λ a b m. direct ((h.marks a b).0 m)) i i c),
)

decide_marked : (before : List (List Bool)) (i j : ℕ) → Marked before i j ⊎ (Marked before i j → ⊥)
decide_marked before i j = elim (cases_Bool (marked before i j)) [ inl e ↦ inl e | inr e ↦ inr (both_ways (marked before i j) e) ]

module _ (count : ℕ) (pairs : List Pair) (before : List (List Bool)) (h : IsDirect count pairs before) (line : List ℕ) (greedy : IsGreedy (Marked before) (length before) line) where
  to : (i j : ℕ) → Precedes (Marked before) i j → Precedes (Pairs pairs) i j
  to = chain_map (λ i j m. direct ((h.marks i j).0 m))

  from : (i j : ℕ) → Precedes (Pairs pairs) i j → Precedes (Marked before) i j
  from = chain_map (λ i j c. direct ((h.marks i j).1 c))

  sets : length before ≡ count
  sets = h.square.sets

  inside : ArePairsOf (Marked before) (length before)
  inside = subst (ArePairsOf (Marked before)) (sym sets) (marked_within count before h.square)

  -- a line that is too short shows a cycle
  pub cyclic : length line < count → IsAcyclic (Pairs pairs) → ⊥
  cyclic l acyclic =
      let e = whole.length_line (Marked before) (length before) line greedy.each (whole.whole (Marked before) (length before) (decide_marked before) inside line greedy (λ i c. acyclic i (to i i c))) in
      omega (arith, sets)

  -- a line that is long enough shows that there is none
  pub acyclic : count ≤ length line → IsAcyclic (Pairs pairs)
  acyclic l i c = whole.line_acyclic (Marked before) (length before) line greedy.each (whole.full (Marked before) (length before) line greedy.each (omega (arith, sets))) inside i (from i i c)

  module _ (l : count ≤ length line) where
    pub marked_line : IsLine (Marked before) (length before) line
    marked_line = record { whole = whole.full (Marked before) (length before) line greedy.each (omega (arith, sets)); each = greedy.each }

    pub is_line : IsLine (Pairs pairs) count line
    is_line = record {
      whole = λ i k. marked_line.whole i (omega (arith, sets));
      each = λ taken rest i e. next_like (length before) count sets to from taken i (greedy.each taken rest i e);
    }

    pub is_closure : (new : List (List Bool)) → IsClosed before new → IsClosure count pairs new
    is_closure new closed = record {
      square = subst (λ n. IsSquare n new) sets closed.square;
      precedes = λ i j a b. (let f = closed.precedes i j (omega (arith, sets)) in (λ m. to i j (f.0 m), λ c. f.1 (from i j c)));
      acyclic = λ i c. whole.line_acyclic (Marked before) (length before) line greedy.each marked_line.whole inside i (from i i c);
    }
