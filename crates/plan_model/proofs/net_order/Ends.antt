-- The last child, the children with which pairs begin, and the places of the line at which it is cut.
use Rattle.std.proofs.Common.{ℕ, ◌≡◌, ◌≢◌, ◌+◌, ◌<◌, ◌≤◌, ◌↔◌, inl, inr, List, [], ◌∷◌, ◌++◌, length, Bool, true, false, IsTrue, Contains, take, get_or, set, sym, subst, ap, ◌∙◌, arith, length-set, get_or-set_same, get_or-set_other}
use Rattle.std.proofs.lemmas.List.{take_more, get_or_read}
use Rattle.std.proofs.lemmas.List.Elements.{Contains-append_left, Contains-push, Contains-push_cases}
use Rattle.std.proofs.lemmas.Bool.{cases_lt, cases_eq, both_ways}
use Rattle.plan_model.specs.declared.networks.Pair.{Pair}
use Rattle.plan_model.specs.net_order.Marks.{has, marked, Marked, IsSquare, IsMarkedLast, IsMarkedCut}
use Rattle.plan_model.specs.net_order.Closure.{AreFirsts}
use Rattle.plan_model.proofs.net_order.Closures.{has_added}

pub not_last : (before : List (List Bool)) (i : ℕ) (s : List Bool) → IsSquare (length before) before → i < length before → s ≡ get_or before i s
    → (j : ℕ) → j < length s → j ≢ i → has s j ≡ false → IsMarkedLast before i → ⊥
not_last before i s square l is j a d e m = both_ways (has s j) e (ap (λ x. has x j) read ∙ m.1 j within d)
  where
    read : s ≡ get_or before i []
    read = get_or_read before i s l is []

    within : j < length before
    within = let e = ap length read in let f = square.marks i l in omega arith

pub firsts_more : (pairs : List Pair) (k : ℕ) (d : Pair) (s : List Bool) → k < length pairs → (get_or pairs k d).first < length s
    → AreFirsts (take k pairs) s → AreFirsts (take (k + 1) pairs) (set s (get_or pairs k d).first true)
firsts_more pairs k d s l w h = subst (λ ps. AreFirsts ps (set s p.first true)) (sym (take_more pairs k d l)) (λ i. (to i, from i))
  where
    p : Pair
    p = get_or pairs k d

    to : (i : ℕ) → IsTrue (has (set s (get_or pairs k d).first true) i) → (q : Pair) × Contains (take k pairs ++ get_or pairs k d ∷ []) q × (q.first ≡ i)
    to i t = elim ((has_added s (get_or pairs k d).first i w).0 t) [
      | inl e ↦ (get_or pairs k d, Contains-push (take k pairs) (get_or pairs k d), sym e)
      | inr u ↦ (let x = (h i).0 u in (x.0, Contains-append_left (take k pairs) (get_or pairs k d ∷ []) x.0 x.1, x.2))
    ]

    from : (i : ℕ) → (q : Pair) × Contains (take k pairs ++ get_or pairs k d ∷ []) q × (q.first ≡ i) → IsTrue (has (set s (get_or pairs k d).first true) i)
    from i x = (has_added s (get_or pairs k d).first i w).1 (elim (Contains-push_cases (take k pairs) (get_or pairs k d) x.0 x.1) [
      | inl c ↦ inr ((h i).1 (x.0, c, x.2))
      | inr e ↦ inl (sym x.2 ∙ sym (ap (λ (q : Pair). q.first) e))
    ])

-- so many of the line precede all from place k on, and the next doesn't precede one of them
pub record IsReach (before : List (List Bool)) (line : List ℕ) (k reach : ℕ) : Type 0 where
  pub within : reach ≤ length line
  pub all : (p q : ℕ) → p < reach → k ≤ q → q < length line → Marked before (get_or line p 0) (get_or line q 0)
  pub ends : reach < length line → (q : ℕ) × (k ≤ q) × (q < length line) × (marked before (get_or line reach 0) (get_or line q 0) ≡ false)

module _ (before : List (List Bool)) (line : List ℕ) where
  pub reach_none : IsReach before line (length line) (length line)
  reach_none = record { within = omega arith; all = λ p q a b c. absurd (omega arith); ends = λ l. absurd (omega arith) }

  -- the first n of the line precede its child at place k
  abbrev pub AreMarkedTo : ℕ → ℕ → Type 0
  AreMarkedTo k n = (p : ℕ) → p < n → Marked before (get_or line p 0) (get_or line k 0)

  pub reach_more : (k reach n : ℕ) → k < length line → IsReach before line (k + 1) reach → n ≤ reach → AreMarkedTo k n → (n < reach → marked before (get_or line n 0) (get_or line k 0) ≡ false) → IsReach before line k n
  reach_more k reach n l h far inside outside = record { within = (let m = h.within in omega (arith, far)); all = both; ends = ends }
    where
      both : (p q : ℕ) → p < n → k ≤ q → q < length line → Marked before (get_or line p 0) (get_or line q 0)
      both p q a d e = elim (cases_eq q k) [
        | inl f ↦ subst (λ x. Marked before (get_or line p 0) (get_or line x 0)) (sym f) (inside p a)
        | inr f ↦ h.all p q (omega (arith, far)) (omega arith) e
      ]

      Ends : Type 0
      Ends = (q : ℕ) × (k ≤ q) × (q < length line) × (marked before (get_or line n 0) (get_or line q 0) ≡ false)

      ends : n < length line → Ends
      ends b = elim (cases_lt n reach) [
        | inl a ↦ (k, omega arith, l, outside a)
        | inr a ↦ (let e : reach ≡ n = omega (arith, far) in let x = h.ends (omega (arith, far)) in let y = x.1 in (x.0, omega arith, x.2, subst (λ r. marked before (get_or line r 0) (get_or line x.0 0) ≡ false) e x.3))
      ]

  pub cut_at_reach : (k reach : ℕ) → k < length line → IsReach before line k reach → (k ≤ reach) ↔ IsMarkedCut before line k
  cut_at_reach k reach l h = ((λ a p q b d e. h.all p q (omega arith) d e), back)
    where
      back : IsMarkedCut before line k → k ≤ reach
      back f = elim (cases_lt reach k) [
        | inl a ↦ (let x = h.ends (omega arith) in absurd (both_ways (marked before (get_or line reach 0) (get_or line x.0 0)) x.3 (f reach x.0 a x.1 x.2)))
        | inr a ↦ a
      ]

-- the cuts from place k on
pub record AreCutsFrom (before : List (List Bool)) (line : List ℕ) (k far : ℕ) (cuts : List Bool) : Type 0 where
  pub room : length cuts ≡ length line
  pub reach : IsReach before line k far
  pub done : (i : ℕ) → k ≤ i → i < length line → IsTrue (has cuts i) ↔ IsMarkedCut before line i
  pub later : (i : ℕ) → i < k → has cuts i ≡ false

module _ (before : List (List Bool)) (line : List ℕ) (k old reach : ℕ) (cuts : List Bool) (l : k < length line) (h : AreCutsFrom before line (k + 1) old cuts) (is : IsReach before line k reach) where
  abbrev Cut : List Bool → ℕ → Type 0
  Cut s i = IsTrue (has s i) ↔ IsMarkedCut before line i

  pub cuts_left : reach < k → AreCutsFrom before line k reach cuts
  cuts_left a = record {
    room = h.room;
    reach = is;
    done = λ i b c. elim (cases_eq i k) [ inl e ↦ subst (Cut cuts) (sym e) here | inr d ↦ h.done i (omega arith) c ];
    later = λ i b. h.later i (omega arith);
  }
    where
      here : Cut cuts k
      here = ((λ t. absurd (both_ways (has cuts k) (h.later k (omega arith)) t)), λ m. absurd (let b = (cut_at_reach before line k reach l is).1 m in omega arith))

  pub cuts_taken : k ≤ reach → AreCutsFrom before line k reach (set cuts k true)
  cuts_taken a = record {
    room = length-set cuts k true ∙ h.room;
    reach = is;
    done = λ i b c. elim (cases_eq i k) [ inl e ↦ subst (Cut (set cuts k true)) (sym e) here | inr d ↦ apart i d (h.done i (omega arith) c) ];
    later = λ i b. (get_or-set_other cuts k i true false (omega arith) ∙ h.later i (omega arith));
  }
    where
      here : Cut (set cuts k true) k
      here = ((λ t. (cut_at_reach before line k reach l is).0 a), λ m. get_or-set_same cuts k true false (let e = h.room in omega arith))

      apart : (i : ℕ) → (i ≡ k → ⊥) → Cut cuts i → Cut (set cuts k true) i
      apart i d f = let e = get_or-set_other cuts k i true false d in ((λ t. f.0 (sym e ∙ t)), λ m. e ∙ f.1 m)
