-- What was found means the order that the pairs generate.
use Rattle.std.proofs.Common.{ℕ, ◌≡◌, ◌+◌, ◌-◌, ◌<◌, ◌≤◌, ◌↔◌, ◌⊎◌, inl, inr, List, [], ◌∷◌, ◌++◌, length, Bool, false, not, IsTrue, Contains, Option, Some, None, MatchOption, slice_get, take, drop, get_or, refl, sym, subst, ap, ◌∙◌, arith, get_or-take, get_or-drop, length-take, length-drop}
use Rattle.std.proofs.lemmas.List.{get_or_past, get_or_default}
use Rattle.std.proofs.lemmas.Bool.{cases_lt, both_ways, not-true, not_from_false, false_from_ne_true}
use Rattle.plan_model.specs.declared.networks.Pair.{Pair}
use Rattle.plan_model.specs.task_networks.Order.{Precedes, direct, through, ArePairsOf, IsNext, IsLine, IsHeir, IsLast, IsMaximal, IsCut}
use Rattle.plan_model.proofs.task_networks.Orders.{precedes_within}
use Rattle.plan_model.proofs.task_networks.Lists.{last_cases}
use Rattle.plan_model.specs.net_order.Marks.{has, marked, Marked, IsSquare, IsMarkedLast, IsMarkedCut}
use Rattle.plan_model.specs.net_order.Meaning.{AreBelow, IsOrderOf}
use Rattle.plan_model.specs.Pairs.{pair, Pairs}
use Rattle.plan_model.specs.net_order.Closure.{IsClosure, AreFirsts}
use Rattle.plan_model.proofs.net_order.Chains.{chain_map, pairs_of}
use Rattle.plan_model.proofs.net_order.Lasts.{slice_get-last}
use Rattle.plan_model.proofs.net_order.Whole as whole

pub marked_within : (count : ℕ) (before : List (List Bool)) → IsSquare count before → ArePairsOf (Marked before) count
marked_within count before square i j m = go (cases_lt j count)
  where
    in_set : j < count → ((i < count) ⊎ (count ≤ i)) → i < count
    in_set l (inl k) = k
    in_set l (inr k) = absurd (both_ways (marked before i j) (get_or_past (get_or before j []) i false (let e = square.marks j l in omega arith)) m)

    none : count ≤ j → marked before i j ≡ false
    none k = ap (λ s. has s i) (get_or_past before j [] (let e = square.sets in omega arith))

    go : ((j < count) ⊎ (count ≤ j)) → (i < count) × (j < count)
    go (inl l) = (in_set l (cases_lt i count), l)
    go (inr k) = absurd (both_ways (marked before i j) (none k) m)

-- the same chains make the same next child
pub next_like : {P Q : ℕ → ℕ → Type 0} (count n : ℕ) → count ≡ n → ((i j : ℕ) → Precedes P i j → Precedes Q i j) → ((i j : ℕ) → Precedes Q i j → Precedes P i j)
    → (listed : List ℕ) (i : ℕ) → IsNext P count listed i → IsNext Q n listed i
next_like count n e to from listed i h = record {
  ready = record { child = subst (λ x. i < x) e h.ready.child; unlisted = h.ready.unlisted; preceded = λ j c. h.ready.preceded j (from j i c) };
  least = λ j r. h.least j (record { child = subst (λ x. j < x) (sym e) r.child; unlisted = r.unlisted; preceded = λ k c. r.preceded k (to k j c) });
}

first_pair : {P : ℕ → ℕ → Type 0} (i j : ℕ) → Precedes P i j → (k : ℕ) × P i k
first_pair i j (direct h) = (j, h)
first_pair i j (through {j = k} c h) = first_pair i k c

pub heir_is_last : (P : ℕ → ℕ → Type 0) (count : ℕ) (line : List ℕ) → IsLine P count line → length line ≡ count → MatchOption (slice_get line (length line - 1)) (count ≡ 0) (IsHeir P count)
heir_is_last P count line is e = elim (last_cases line) [
  | inl f ↦ subst (λ xs. MatchOption (slice_get xs (length xs - 1)) (count ≡ 0) (IsHeir P count)) (sym f) (sym e ∙ ap length f)
  | inr x ↦ some x.0 x.1 x.2
]
  where
    some : (ys : List ℕ) (y : ℕ) → line ≡ ys ++ y ∷ [] → MatchOption (slice_get line (length line - 1)) (count ≡ 0) (IsHeir P count)
    some ys y f =
        let at : slice_get line (length line - 1) ≡ Some y = subst (λ xs. slice_get xs (length xs - 1) ≡ Some y) (sym f) (slice_get-last ys y) in
        subst (λ o. MatchOption o (count ≡ 0) (IsHeir P count)) (sym at) (ys, subst (IsLine P count) f is)

module _ (count : ℕ) (pairs : List Pair) (before : List (List Bool)) (below : AreBelow count pairs) (closure : IsClosure count pairs before) where
  within : ArePairsOf (Pairs pairs) count
  within = pairs_of count pairs below

  pub to : (i j : ℕ) → Precedes (Marked before) i j → Precedes (Pairs pairs) i j
  to = chain_map (λ i j m. let w = marked_within count before closure.square i j m in (closure.precedes i j w.0 w.1).0 m)

  pub marks : (i j : ℕ) → Precedes (Pairs pairs) i j → Marked before i j
  marks i j c = let w = precedes_within count i j within c in (closure.precedes i j w.0 w.1).1 c

  pub from : (i j : ℕ) → Precedes (Pairs pairs) i j → Precedes (Marked before) i j
  from i j c = direct (marks i j c)

  sets : length before ≡ count
  sets = closure.square.sets

  module _ (line : List ℕ) (is : IsLine (Pairs pairs) count line) where
    pub is_cut : (k : ℕ) → k < length line → IsMarkedCut before line k ↔ IsCut (Pairs pairs) line k
    is_cut k l = (cut, marked_cut)
      where
        cut : IsMarkedCut before line k → IsCut (Pairs pairs) line k
        cut f i j (p, a, d) (q, b, e) =
            let n = length-take k line in
            let m = length-drop k line in
            let x : get_or line p 0 ≡ i = get_or_default line p 0 i (omega arith) ∙ (sym (get_or-take k line p i (omega arith)) ∙ d) in
            let y : get_or line (k + q) 0 ≡ j = get_or_default line (k + q) 0 j (omega arith) ∙ (sym (get_or-drop k line q j) ∙ e) in
            to i j (direct (subst (λ z. Marked before z j) x (subst (Marked before (get_or line p 0)) y (f p (k + q) (omega arith) (omega arith) (omega arith)))))

        marked_cut : IsCut (Pairs pairs) line k → IsMarkedCut before line k
        marked_cut f p q a b c =
            let i = get_or line p 0 in
            let j = get_or line q 0 in
            let n = length-take k line in
            let m = length-drop k line in
            let s : k + (q - k) ≡ q = omega arith in
            let x : get_or (take k line) p i ≡ i = get_or-take k line p i a ∙ get_or_default line p i 0 (omega arith) in
            let y : get_or (drop k line) (q - k) j ≡ j = get_or-drop k line (q - k) j ∙ (ap (λ r. get_or line r j) s ∙ get_or_default line q j 0 c) in
            marks i j (f i j (p, omega arith, x) (q - k, omega arith, y))

  -- the marks have the line of the pairs
  pub line_by_marks : (line : List ℕ) → IsLine (Pairs pairs) count line → IsLine (Marked before) (length before) line
  line_by_marks line is = record {
    whole = λ i l. is.whole i (omega (arith, sets));
    each = λ listed rest i e. next_like count (length before) (sym sets) from to listed i (is.each listed rest i e);
  }

  pub is_last : (last : Option ℕ) → MatchOption last ((i : ℕ) → IsMarkedLast before i → ⊥) (IsMarkedLast before) → MatchOption last ((i : ℕ) → IsLast (Pairs pairs) count i → ⊥) (IsLast (Pairs pairs) count)
  is_last None f = λ i m. f i (omega (arith, sets, m.0), λ j l d. marks j i (m.1 j (omega (arith, sets)) d))
  is_last (Some i) m = (omega (arith, sets, m.0), λ j l d. to j i (direct (m.1 j (omega (arith, sets)) d)))

  pub is_maximal : (begins : List Bool) → AreFirsts pairs begins → (i : ℕ) → i < count → IsTrue (not (has begins i)) ↔ IsMaximal (Pairs pairs) count i
  is_maximal begins firsts i l = (max, ends)
    where
      max : IsTrue (not (has begins i)) → IsMaximal (Pairs pairs) count i
      max t = (l, λ j c. (let x = first_pair i j c in both_ways (has begins i) (not-true (has begins i) t) ((firsts i).1 (pair i x.0, x.1, refl))))

      ends : IsMaximal (Pairs pairs) count i → IsTrue (not (has begins i))
      ends m = not_from_false (has begins i) (false_from_ne_true (has begins i) (λ t. (let x = (firsts i).0 t in m.1 x.0.then (direct (subst (λ k. Contains pairs (pair k x.0.then)) x.2 x.1)))))

  pub is_order : (line : List ℕ) (last : Option ℕ) (begins cuts : List Bool) → IsLine (Pairs pairs) count line
      → MatchOption last ((i : ℕ) → IsMarkedLast before i → ⊥) (IsMarkedLast before) → AreFirsts pairs begins
      → ((k : ℕ) → k < length line → IsTrue (has cuts k) ↔ IsMarkedCut before line k)
      → IsOrderOf count pairs (record { count = length before; before = before; line = line; last = last; begins = begins; cuts = cuts })
  is_order line last begins cuts is lasts firsts cut_at = record {
    children = sets;
    acyclic = closure.acyclic;
    precedes = closure.precedes;
    line = is;
    heir = heir_is_last (Pairs pairs) count line is places;
    last = is_last last lasts;
    maximal = is_maximal begins firsts;
    cut = λ k a l. cuts_are k (omega (arith, places));
  }
    where
      places : length line ≡ count
      places = whole.length_line (Pairs pairs) count line is.each is.whole

      cuts_are : (k : ℕ) → k < length line → IsTrue (has cuts k) ↔ IsCut (Pairs pairs) line k
      cuts_are k l = let f = cut_at k l in let g = is_cut line is k l in (λ t. g.0 (f.0 t), λ c. f.1 (g.1 c))
